-- A range to a turn; what is left to say stays the same.
use Rattle.std.proofs.Common.{◌-◌}
use Rattle.answers.proofs.Laws.{Left}
use Rattle.answers.specs.Replies.{ranges_say}
use Rattle.answers.proofs.plans.put_ranges.Given as goal

abbrev pub invariant-loop-x : goal.invariant-loop-x
invariant-loop-x l = Left l.initial.out l.initial.k (ranges_say (l.x-index-end - 0) 0 l.fn.plan.ranges) l.k l.out (ranges_say (l.x-index-end - l.x-index) l.x-index l.fn.plan.ranges)
