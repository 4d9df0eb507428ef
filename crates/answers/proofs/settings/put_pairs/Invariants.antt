-- A pair to a turn; what is left to say stays the same.
use Rattle.std.proofs.Common.{◌-◌}
use Rattle.answers.proofs.Laws.{Left}
use Rattle.answers.specs.Replies.{pairs_say}
use Rattle.answers.proofs.settings.put_pairs.Given as goal

abbrev pub invariant-loop-t : goal.invariant-loop-t
invariant-loop-t l = Left l.initial.out l.initial.k (pairs_say 8 0 l.s-items) l.k l.out (pairs_say (8 - l.t) l.t l.s-items)
