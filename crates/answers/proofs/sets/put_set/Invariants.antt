-- A mark to a turn.
use Rattle.std.proofs.Common.{map, take}
use Rattle.answers.specs.Waiting.{Adds}
use Rattle.script.specs.Writing.{mark_text}
use Rattle.answers.proofs.sets.put_set.Given as goal

abbrev pub invariant-loop-mark : goal.invariant-loop-mark
invariant-loop-mark l = Adds l.initial.out l.initial.k (map mark_text (take l.mark-index l.mark-items)) l.k l.out
