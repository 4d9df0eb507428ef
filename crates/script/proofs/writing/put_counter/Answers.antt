-- Three texts, one behind the other.
use mathlib.Core.Path.{ap}
use native.Mathlib.Omega.{arith}
use Rattle.text.specs.Signed.{signed_text}
use Rattle.script.proofs.PutLaws.{puts_then, puts_all, puts_few, puts_as, puts_more}
use Rattle.script.proofs.CounterLaws.{widened}
use Rattle.script.proofs.writing.put_counter.Goals as goal

pub returns : goal.returns
returns c =
    let number = puts_as (ap signed_text (widened c.args.cnt c.ranges.cnt c.from.ensures)) (puts_few c.put_integer-b.ensures) in
    puts_more (omega arith) (puts_then (omega arith) (puts_then (omega arith) (puts_all c.put-a.ensures) number) (puts_all c.put.ensures))
