-- `propose` meets its contract: nothing where that would do, else the unheld ranges below the least position where all of them would do.
use mathlib.Core.Path.{sym, ap, ◌∙◌}
use native.Mathlib.Omega.{arith}
use Rattle.tanks.specs.House.{tank_at}
use Rattle.tanks.specs.Pool.{meaning}
use Rattle.std.proofs.Common.{Some, Ok}
use Rattle.night.specs.declared.Plan.{Plan}
use Rattle.night.proofs.ProposeLaws.{least_within}
use Rattle.night.proofs.ProposalLaws.{can_below, length_is, below_is, propose_1, propose_nothing, propose_some, propose_none}
use Rattle.night.proofs.propose.Goals as goal

pub returns-then-tank-ge8 : goal.returns-then-tank-ge8
returns-then-tank-ge8 c =
    let a = c.args in
    propose_1 a.s a.tank a.hold a.most c.if-tank-ge8.true

pub returns-then-works_below : goal.returns-then-works_below
returns-then-works_below c =
    let a = c.args in
    ap (λ (p : Plan). Ok (Some p)) c.empty_plan.ensures
    ∙ propose_nothing a.s a.tank a.hold a.most c.if-tank-ge8.false (sym c.works_below.ensures ∙ c.if-works_below.true)

pub works_below-requires-2 : goal.works_below-requires-2
works_below-requires-2 c =
    let a = c.args in
    let e = length_is a.s a.tank c.take-x.ensures in
    record { sound = c.requires; tank = c.if-tank-ge8.false; fits = omega arith }

pub least_below-below-requires : goal.least_below-below-requires
least_below-below-requires c =
    let a = c.args in
    record {
      sound = c.requires;
      tank = c.if-tank-ge8.false;
      whole = length_is a.s a.tank c.take-x.ensures;
      some = sym c.works_below.ensures ∙ c.if-works_below.false;
      all = sym c.works_below-2.ensures ∙ c.if-works_below-2.true;
    }

pub unheld_below-requires : goal.unheld_below-requires
unheld_below-requires c =
    let a = c.args in
    can_below a.s a.tank c.take-x.ensures
    (omega (arith, c.least_below-below.ensures, least_within a.hold (tank_at (meaning a.s) a.tank) a.most))

pub returns-then-works_below-2 : goal.returns-then-works_below-2
returns-then-works_below-2 c =
    let a = c.args in
    ap (λ (p : Plan). Ok (Some p)) (below_is a.s a.tank a.hold a.most c.least_below-below.result c.take-x.ensures c.unheld_below.ensures)
    ∙ propose_some a.s a.tank a.hold a.most c.if-tank-ge8.false _ (length_is a.s a.tank c.take-x.ensures)
    (sym c.works_below-2.ensures ∙ c.if-works_below-2.true) c.least_below-below.result c.least_below-below.ensures

pub returns : goal.returns
returns c =
    let a = c.args in
    propose_none a.s a.tank a.hold a.most c.if-tank-ge8.false _ (length_is a.s a.tank c.take-x.ensures)
    (sym c.works_below.ensures ∙ c.if-works_below.false) (sym c.works_below-2.ensures ∙ c.if-works_below-2.false)
