-- By whether there is a number.
use mathlib.Core.Path.{sym, ap}
use native.Mathlib.Omega.{arith}
use Rattle.script.proofs.PutLaws.{puts_all, puts_as, puts_more}
use Rattle.explain.specs.Told.{refusal_by}
use Rattle.explain.proofs.told.refused_as.Goals as goal

pub returns-in_default : goal.returns-in_default
returns-in_default c = puts_as (sym (ap (refusal_by c.args.line c.args.call) c.in_default.is)) (puts_more (omega arith) (puts_all c.put.ensures))

pub returns : goal.returns
returns c = puts_as (sym (ap (refusal_by c.args.line c.args.call) c.in-Some.is)) (puts_more (omega arith) c.put_refusal.ensures)
