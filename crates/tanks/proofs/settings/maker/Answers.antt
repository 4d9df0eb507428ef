-- `maker` meets its contract: in each case the party that the edit names.
use mathlib.Core.Path.{refl}
use Rattle.tanks.proofs.settings.maker.Goals as goal

pub returns-in-Annotate : goal.returns-in-Annotate
returns-in-Annotate c = rw c.in-Annotate.is refl
