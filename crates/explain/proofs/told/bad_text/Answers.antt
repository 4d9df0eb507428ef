-- What came is told, and the line.
use mathlib.Core.Path.{ap}
use native.Mathlib.Omega.{arith}
use Rattle.script.proofs.PutLaws.{puts_as, puts_more}
use Rattle.explain.specs.declared.Came.{Came}
use Rattle.explain.specs.Told.{bad_text}
use Rattle.explain.proofs.told.bad_text.Goals as goal

pub returns : goal.returns
returns c = puts_as (ap (λ (x : Came). bad_text c.args.number c.args.call x c.args.line.now) c.came_at-c.ensures) (puts_more (omega arith) c.put_bad.ensures)
