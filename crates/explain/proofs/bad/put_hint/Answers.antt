-- By what the field holds.
use mathlib.Core.Path.{sym, ap}
use native.Mathlib.Omega.{arith}
use Rattle.script.specs.declared.Holds.{Holds}
use Rattle.script.proofs.PutLaws.{puts_all, puts_as, puts_more}
use Rattle.explain.specs.Told.{hint_text}
use Rattle.explain.proofs.bad.put_hint.Goals as goal

pub returns-in-Nothing : goal.returns-in-Nothing
returns-in-Nothing c = puts_as (sym (ap (λ (h : Holds). hint_text h c.args.kind) c.in-Nothing.is)) (puts_more (omega arith) (puts_all c.put.ensures))

pub returns-in-Op : goal.returns-in-Op
returns-in-Op c = puts_as (sym (ap (λ (h : Holds). hint_text h c.args.kind) c.in-Op.is)) (puts_more (omega arith) (puts_all c.put-in-Op.ensures))

pub returns-in-Number : goal.returns-in-Number
returns-in-Number c = puts_as (sym (ap (λ (h : Holds). hint_text h c.args.kind) c.in-Number.is)) c.put_most.ensures

pub returns-in-Counter : goal.returns-in-Counter
returns-in-Counter c = puts_as (sym (ap (λ (h : Holds). hint_text h c.args.kind) c.in-Counter.is)) (puts_more (omega arith) (puts_all c.put-in-Counter.ensures))

pub returns-in-Kind : goal.returns-in-Kind
returns-in-Kind c = puts_as (sym (ap (λ (h : Holds). hint_text h c.args.kind) c.in-Kind.is)) (puts_more (omega arith) (puts_all c.put-in-Kind.ensures))

pub returns-in-Value : goal.returns-in-Value
returns-in-Value c = puts_as (sym (ap (λ (h : Holds). hint_text h c.args.kind) c.in-Value.is)) c.put_value_hint.ensures

pub returns-in-Byte : goal.returns-in-Byte
returns-in-Byte c = puts_as (sym (ap (λ (h : Holds). hint_text h c.args.kind) c.in-Byte.is)) (puts_more (omega arith) (puts_all c.put-in-Byte.ensures))

pub returns-in-Party : goal.returns-in-Party
returns-in-Party c = puts_as (sym (ap (λ (h : Holds). hint_text h c.args.kind) c.in-Party.is)) (puts_more (omega arith) (puts_all c.put-in-Party.ensures))
