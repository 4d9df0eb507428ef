-- One byte.
use native.Mathlib.Omega.{arith}
use Rattle.script.proofs.PutLaws.{puts_all, puts_more}
use Rattle.script.proofs.writing.put_flag.Goals as goal

pub returns-then-b : goal.returns-then-b
returns-then-b c = rw c.if-b.true (puts_more (omega arith) (puts_all c.put.ensures))

pub returns : goal.returns
returns c = rw c.if-b.false (puts_more (omega arith) (puts_all c.put-2.ensures))
