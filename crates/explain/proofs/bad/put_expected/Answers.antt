-- The name of the field at the call's place, and what stands behind it.
use mathlib.Core.Path.{ap, ◌∙◌}
use native.Mathlib.Omega.{arith}
use Rattle.script.specs.declared.Holds.{Holds}
use Rattle.script.specs.Grammar.{Field}
use Rattle.script.proofs.LineLaws.{name_spells, name_length, name_fits}
use Rattle.script.proofs.PutLaws.{puts_then, puts_all, puts_as, puts_more}
use Rattle.explain.specs.Told.{hint_text}
use Rattle.explain.proofs.Short.{short_field}
use Rattle.explain.proofs.bad.put_expected.Goals as goal

pub put_name-b-requires : goal.put_name-b-requires
put_name-b-requires c = (name_fits _ c.field_name.ensures, omega (arith, name_length _ c.field_name.ensures, short_field c.field_at-f.result, c.put-a.ensures.0, c.put-a.auto.out))

pub put_hint-requires : goal.put_hint-requires
put_hint-requires c = omega (arith, name_length _ c.field_name.ensures, short_field c.field_at-f.result, c.put-a.ensures.0, c.put-a.auto.out, c.put_name-b.ensures.few, c.put_name-b.auto.out)

pub returns : goal.returns
returns c =
    let n = c.field_name.ensures in
    let f = c.field_at-f.ensures in
    let s = name_length _ n in
    let few = short_field c.field_at-f.result in
    puts_more (omega arith)
    (puts_then (omega arith) (puts_then (omega arith) (puts_all c.put-a.ensures) (puts_as (name_spells _ n ∙ ap (λ (x : Field). x.name) f) c.put_name-b.ensures))
    (puts_as (ap (λ (h : Holds). hint_text h c.args.call.kind) (c.field_holds.ensures ∙ ap (λ (x : Field). x.holds) f)) c.put_hint.ensures))
