-- Two texts, one behind the other.
use mathlib.Core.Path.{ap}
use native.Mathlib.Omega.{arith}
use Rattle.text.specs.Number.{decimal_text}
use Rattle.script.proofs.PutLaws.{puts_then, puts_all, puts_few, puts_as, puts_more}
use Rattle.key_names.specs.Names.{key_text}
use Rattle.key_names.proofs.put_number.Goals as goal

pub returns : goal.returns
unfolding key_text
returns c = puts_more (omega arith) (puts_then (omega arith) (puts_all c.put-a.ensures) (puts_as (ap decimal_text c.wide16.ensures) (puts_few c.put_decimal.ensures)))
