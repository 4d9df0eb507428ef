-- The line, the op, the tank and the number, one behind the other.
use native.Mathlib.Omega.{arith}
use Rattle.script.proofs.PutLaws.{puts_then}
use Rattle.explain.specs.Told.{refusal_text}
use Rattle.explain.proofs.refused.put_refusal.Goals as goal

pub returns : goal.returns
unfolding refusal_text
returns c = puts_then (omega arith) (puts_then (omega arith) (puts_then (omega arith) c.put_head-a.ensures c.put_op-b.ensures) c.put_tank-c.ensures) c.put_refused.ensures
