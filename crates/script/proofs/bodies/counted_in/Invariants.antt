-- What is counted so far and the bytes to come give what all of them do.
use mathlib.Core.Path.{◌≡◌}
use lib.ListN.{drop}
use Rattle.script.specs.Bodies.{counted_in}
use Rattle.script.proofs.bodies.counted_in.Given as goal

abbrev pub invariant-loop-byte : goal.invariant-loop-byte
invariant-loop-byte l = counted_in l.n l.part ≡ counted_in l.count (drop l.byte-index l.part)
