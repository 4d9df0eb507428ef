-- `range_in` meets its contract: nothing needed, too short a buffer, or the list in front.
use mathlib.Core.Path.{refl, ◌∙◌}
use native.Mathlib.Omega.{arith}
use Rattle.lists.specs.Lists.{list_over, range_list, range_refusal}
use Rattle.lists.proofs.ListLaws.{needed_some, handed_none, handed_short, handed_full}
use Rattle.tanks.specs.Looks.{shown_in}
use Rattle.tanks.proofs.LookLaws.{shown_length}
use Rattle.ask.proofs.AskLaws.{listed_eq}
use Rattle.ask.proofs.listed.range_in.Goals as goal

pub returns-then-asked-eq0 : goal.returns-then-asked-eq0
returns-then-asked-eq0 c =
    let a = c.args in
    let v = shown_in a.heads a.pool a.table a.t a.who in
    let h =
    handed_none (range_refusal a.start a.end v) (range_list a.start a.end v) a.out.now _ c.range_needed-asked.ensures c.if-asked-eq0.true in
    record { value = h.0; out_after = h.1 }

pub returns-then-out-asked : goal.returns-then-out-asked
returns-then-out-asked c =
    let a = c.args in
    let v = shown_in a.heads a.pool a.table a.t a.who in
    let n = needed_some a.start a.end v c.range_needed-asked.result c.range_needed-asked.ensures c.if-asked-eq0.false in
    let h =
    handed_short (range_refusal a.start a.end v) (range_list a.start a.end v) a.out.now n.0 (omega (arith, n.2, c.if-out-asked.true)) in
    record { value = c.refused.ensures ∙ h.0; out_after = h.1 }

pub list-requires : goal.list-requires
unfolding list_over
list-requires c =
    let a = c.args in
    let v = shown_in a.heads a.pool a.table a.t a.who in
    let n = needed_some a.start a.end v c.range_needed-asked.result c.range_needed-asked.ensures c.if-asked-eq0.false in
    (c.requires, omega (arith, n.1, shown_length a.heads a.pool a.table a.t a.who), omega (arith, n.2, c.if-out-asked.false))

pub returns : goal.returns
unfolding list_over
returns c =
    let a = c.args in
    let v = shown_in a.heads a.pool a.table a.t a.who in
    let n = needed_some a.start a.end v c.range_needed-asked.result c.range_needed-asked.ensures c.if-asked-eq0.false in
    let h =
    handed_full (range_refusal a.start a.end v) (range_list a.start a.end v) (range_list a.start a.end v) a.out.now _ _ n.0 refl
    (omega (arith, n.2, c.if-out-asked.false)) c.list.ensures.out_after c.list.ensures.value in
    record { value = listed_eq _ _ _ c.counted.ensures.0 c.counted.ensures.1 ∙ h.0; out_after = h.1 }
