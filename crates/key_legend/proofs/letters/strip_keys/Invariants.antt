-- The first i stand.
use Rattle.std.proofs.Common.{◌≡◌, length, map, take}
use Rattle.key_legend.specs.Letters.{strip_key}
use Rattle.key_legend.proofs.letters.strip_keys.Given as goal

abbrev pub invariant-loop-i : goal.invariant-loop-i
invariant-loop-i l = (length l.all ≡ length l.key-items) × (take l.i l.all ≡ map strip_key (take l.i l.key-items))
