-- A stretch to a turn; what is left to say stays the same.
use Rattle.std.proofs.Common.{length}
use Rattle.answers.proofs.Laws.{Left}
use Rattle.answers.specs.Replies.{stretches_say}
use Rattle.answers.proofs.listing.put_stretches.Given as goal

abbrev pub invariant-loop-left : goal.invariant-loop-left
invariant-loop-left l = Left l.initial.out l.initial.k (stretches_say l.list) l.k l.out (stretches_say l.left)

abbrev pub decreases-loop-left : goal.decreases-loop-left
decreases-loop-left l = length l.left
