-- No call is under way.
use mathlib.Core.Path.{ap}
use Rattle.script.specs.declared.Call.{Call}
use Rattle.script.specs.declared.Inlet.{Inlet}
use Rattle.script.proofs.bodies.in_lines.Goals as goal

pub returns : goal.returns
returns c = ap {B = Inlet} (λ (k : Call). record { reader = c.args.reader; call = k; have = 0; left = 0 }) c.idle-call.ensures
