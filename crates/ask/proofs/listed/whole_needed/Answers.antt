-- `whole_needed` meets its contract: no such tank, or the marked stretches of the whole counted.
use Prim.Native.Nat.{ℕ}
use mathlib.Core.Path.{sym, ap, ◌∙◌}
use lib.ListN.{length}
use native.Mathlib.Omega.{arith}
use Rattle.lists.specs.Lists.{list_over, whole_needed}
use Rattle.tanks.specs.Looks.{shown_in}
use Rattle.ask.specs.Asks.{no_list}
use Rattle.ask.proofs.AskLaws.{listed_eq}
use Rattle.ask.proofs.Standing.{none_there, one_there, long_there}
use Rattle.ask.proofs.listed.whole_needed.Goals as goal

pub returns-then-tank-ge8 : goal.returns-then-tank-ge8
returns-then-tank-ge8 c =
    let a = c.args in
    none_there a.heads a.pool a.table a.tank a.who no_list whole_needed c.if-tank-ge8.true c.no_list.ensures

pub needed-requires : goal.needed-requires
needed-requires c = (c.requires c.if-tank-ge8.false, omega (arith, c.length_in-l.ensures))

pub returns : goal.returns
unfolding list_over
returns c =
    let a = c.args in
    let v = shown_in a.heads a.pool a.table a.tank a.who in
    one_there a.heads a.pool a.table a.tank a.who no_list whole_needed c.if-tank-ge8.false
    (listed_eq _ _ _ c.counted.ensures.0 (c.counted.ensures.1 ∙ c.needed.ensures ∙ ap (λ (l : ℕ). length (list_over 1 0 l v)) (sym (long_there a.heads a.pool a.table a.tank a.who c.length_in-l.ensures))))
