-- `length` meets its contract: the view's own field.
use Rattle.tank.specs.State.{view}
use mathlib.Core.Path.{refl}
use Rattle.questions.proofs.length.Goals as goal

pub returns : goal.returns
unfolding view
returns c = refl
