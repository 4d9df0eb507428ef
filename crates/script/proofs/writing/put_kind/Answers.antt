-- Three texts, one behind the other.
use native.Mathlib.Omega.{arith}
use Rattle.script.proofs.LineLaws.{name_spells, name_length, name_fits}
use Rattle.script.proofs.PutLaws.{puts_then, puts_all, puts_as, puts_more, few_kind}
use Rattle.script.proofs.writing.put_kind.Goals as goal

pub put_name-b-requires : goal.put_name-b-requires
put_name-b-requires c =
    let n = c.kind_name-n.ensures in
    (name_fits _ n, omega (arith, name_length _ n, few_kind c.args.k, c.put-a.ensures.0, c.put-a.auto.out))

pub put-requires : goal.put-requires
put-requires c =
    let n = c.kind_name-n.ensures in
    omega (arith, name_length _ n, few_kind c.args.k, c.put-a.ensures.0, c.put-a.auto.out, c.put_name-b.ensures.few, c.put_name-b.auto.out)

pub returns : goal.returns
returns c =
    let n = c.kind_name-n.ensures in
    let s = name_length _ n in
    let f = few_kind c.args.k in
    puts_more (omega arith) (puts_then (omega arith) (puts_then (omega arith) (puts_all c.put-a.ensures) (puts_as (name_spells _ n) c.put_name-b.ensures)) (puts_all c.put.ensures))
