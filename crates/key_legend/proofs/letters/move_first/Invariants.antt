-- Each key up to the one that is moved goes one place on.
use Rattle.std.proofs.Common.{◌≡◌, ◌++◌, take, drop}
use Rattle.key_legend.proofs.Drawn.{shifted}
use Rattle.key_legend.proofs.letters.move_first.Given as goal

abbrev pub invariant-loop-place : goal.invariant-loop-place
invariant-loop-place l = take l.place-index l.keys ++ shifted l.carried l.key (drop l.place-index l.keys) ≡ shifted l.key l.key l.initial.keys
