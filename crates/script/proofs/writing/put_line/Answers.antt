-- Three texts, one behind the other.
use native.Mathlib.Omega.{arith}
use Rattle.script.proofs.PutLaws.{puts_then, puts_all}
use Rattle.script.proofs.writing.put_line.Goals as goal

pub returns : goal.returns
returns c = puts_then (omega arith) (puts_then (omega arith) (puts_all c.put-a.ensures) (puts_all c.put-b.ensures)) (puts_all c.put.ensures)
