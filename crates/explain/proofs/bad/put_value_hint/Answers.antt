-- By the kind.
use mathlib.Core.Path.{sym, ap}
use native.Mathlib.Omega.{arith}
use Rattle.script.proofs.PutLaws.{puts_all, puts_as, puts_more}
use Rattle.explain.specs.Told.{value_hint}
use Rattle.explain.proofs.bad.put_value_hint.Goals as goal

pub returns-in-Null : goal.returns-in-Null
returns-in-Null c = puts_as (sym (ap value_hint c.in-Null.is)) (puts_more (omega arith) (puts_all c.put.ensures))

pub returns-in-Bool : goal.returns-in-Bool
returns-in-Bool c = puts_as (sym (ap value_hint c.in-Bool.is)) (puts_more (omega arith) (puts_all c.put-in-Bool.ensures))

pub returns-in-Whole : goal.returns-in-Whole
returns-in-Whole c = puts_as (sym (ap value_hint c.in-Whole.is)) (puts_more (omega arith) (puts_all c.put-in-Whole.ensures))

pub returns-in-Decimal : goal.returns-in-Decimal
returns-in-Decimal c = puts_as (sym (ap value_hint c.in-Decimal.is)) (puts_more (omega arith) (puts_all c.put-in-Decimal.ensures))
