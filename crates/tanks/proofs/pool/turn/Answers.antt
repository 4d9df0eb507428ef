-- `turn` meets its contract: the definition has the same two cases, and both answer a place below the count.
use native.Mathlib.Omega.{arith}
use Rattle.tanks.proofs.pool.turn.Goals as goal

pub returns-then-back : goal.returns-then-back
returns-then-back c = (rw c.if-back.true, omega arith)

pub returns-else-back : goal.returns-else-back
returns-else-back c = (rw c.if-back.false, omega arith)
