-- Six texts, one behind the other.
use native.Mathlib.Omega.{arith}
use Rattle.script.proofs.PutLaws.{puts_then, puts_all, puts_more}
use Rattle.explain.specs.Told.{bad_text}
use Rattle.explain.proofs.bad.put_bad.Goals as goal

pub returns : goal.returns
unfolding bad_text
returns c =
    puts_more (omega arith)
    (puts_then (omega arith)
    (puts_then (omega arith) (puts_then (omega arith) (puts_then (omega arith) (puts_then (omega arith) c.put_head-a.ensures c.put_expected-b.ensures) (puts_all c.put-d.ensures)) c.put_came-e.ensures) c.put_shown-g.ensures)
    (puts_all c.put.ensures))
