-- Two texts, one behind the other.
use native.Mathlib.Omega.{arith}
use Rattle.script.proofs.PutLaws.{puts_then, puts_all, puts_few, puts_more}
use Rattle.explain.proofs.bad.put_most.Goals as goal

pub returns : goal.returns
returns c = puts_more (omega arith) (puts_then (omega arith) (puts_all c.put-a.ensures) (puts_few c.put_decimal.ensures))
