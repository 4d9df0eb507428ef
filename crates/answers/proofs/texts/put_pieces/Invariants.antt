-- A piece to a turn; what is left to say stays the same.
use Rattle.std.proofs.Common.{◌-◌}
use Rattle.answers.proofs.Laws.{Left}
use Rattle.answers.specs.Replies.{cut_up}
use Rattle.answers.proofs.texts.put_pieces.Given as goal

abbrev pub invariant-loop-i : goal.invariant-loop-i
invariant-loop-i l = Left l.initial.out l.initial.k (cut_up (l.count - 0) 0 l.text) l.k l.out (cut_up (l.count - l.i) l.i l.text)
