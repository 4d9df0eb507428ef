-- The inlet is in the lines.
use mathlib.Core.Path.{ap}
use Rattle.script.specs.declared.Inlet.{Inlet}
use Rattle.script.specs.declared.Taken.{Taken}
use Rattle.script.proofs.bodies.in_lines_with.Goals as goal

pub returns : goal.returns
returns c = let a = c.args in ap {B = Taken} (λ (i : Inlet). record { inlet = i; event = a.e; call = a.call; size = a.size; at = a.at }) c.in_lines-inlet.ensures
