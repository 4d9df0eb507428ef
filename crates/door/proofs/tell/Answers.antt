-- The numbers one by one.
use mathlib.Core.Path.{refl}
use Rattle.door.proofs.Laws.{seven}
use Rattle.door.proofs.tell.Goals as goal

pub returns : goal.returns
returns c = (refl, seven _ _ _ _ c.wide-text.ensures c.wide-answers.ensures c.wide-taken.ensures)
