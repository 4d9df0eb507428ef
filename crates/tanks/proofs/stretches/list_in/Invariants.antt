-- `list_in` meets its contract. The loop's invariant: the list up to where the stretch begins that the walk is in stands in front, and the rest of the
-- buffer is as it was.
use mathlib.Core.Path.{◌≡◌}
use lib.ListN.{length}
use Rattle.runs.specs.Stretches.{in_front}
use Rattle.tanks.proofs.Closing.{In, told_to}
use Rattle.tanks.proofs.stretches.list_in.Given as goal

abbrev pub invariant-loop-i : goal.invariant-loop-i
invariant-loop-i l = (In l.pool l.at l.n l.own l.i l.end l.first l.one) × (l.filled ≡ length (told_to l.least l.from l.to l.pool l.at l.n l.own l.first)) × (l.out ≡ in_front (told_to l.least l.from l.to l.pool l.at l.n l.own l.first) l.initial.out)
