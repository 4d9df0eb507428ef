-- `list` meets its contract: the party is shown the marks of its bits.
use Prim.Native.Nat.{ℕ}
use mathlib.Core.Path.{ap, ◌∙◌}
use mathlib.Core.List.{List}
use lib.ListN.{length}
use native.Mathlib.Omega.{arith}
use Rattle.runs.specs.Stretches.{in_front}
use Rattle.tanks.proofs.LookLaws.{few_in}
use Rattle.tanks.proofs.Closing.{mask_list, can_list}
use Rattle.tanks.proofs.stretches.list.Goals as goal

pub own_bits-own-requires : goal.own_bits-own-requires
own_bits-own-requires c = let p = c.requires.0 in (p.inside, few_in p)

pub list_in-requires : goal.list_in-requires
list_in-requires c =
    let a = c.args in
    let e = mask_list c.requires.0 a.who c.own_bits-own.ensures a.least a.from a.to in
    (can_list c.requires.0 a.who c.own_bits-own.ensures c.requires.1, omega (arith, c.requires.2, ap length e))

pub returns : goal.returns
returns c =
    let a = c.args in
    let e = mask_list c.requires.0 a.who c.own_bits-own.ensures a.least a.from a.to in
    record { out_after = c.list_in.ensures.out_after ∙ ap (λ (xs : List ℕ). in_front xs a.out.now) e; value = c.list_in.ensures.value ∙ ap length e }
