-- `made_ahead` meets its contract. The loop's invariant: those that are made, and what the walk comes to, are what was to come. A turn makes one, or
-- is a step of the walk; nothing is left to make where all runs are passed and the last boundary is too.
use Rattle.ask.proofs.RecordLaws.{Filling, to_make}
use Rattle.ask.proofs.records.made_ahead.Given as goal

abbrev pub invariant-loop-count : goal.invariant-loop-count
invariant-loop-count l = Filling l.p l.initial.w l.made l.count l.w

abbrev pub decreases-loop-count : goal.decreases-loop-count
decreases-loop-count l = to_make l.p l.count l.w
