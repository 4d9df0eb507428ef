-- `apply_as_plant` meets its contract: the plan is looked at, carried out on a copy, and taken where it leaves few enough runs.
use Rattle.night.proofs.ApplyLaws.{plan_1, plan_unfit, can_apply, plan_many, plan_done}
use Rattle.night.proofs.apply_as_plant.Goals as goal

-- src/lib.rt:152:9
pub returns-then-tank-ge8 : goal.returns-then-tank-ge8
returns-then-tank-ge8 c = plan_1 c.args.s c.args.tank c.args.hold c.args.most c.args.plan c.requires c.if-tank-ge8.true

-- src/lib.rt:158:9
pub returns-then-not-may_go : goal.returns-then-not-may_go
returns-then-not-may_go c = plan_unfit c.args.s c.args.tank c.args.hold c.args.most c.args.plan c.requires c.if-tank-ge8.false c.take.ensures _ c.may_go.ensures c.if-not-may_go.true

-- src/lib.rt:163:9
pub delete_all-next-requires : goal.delete_all-next-requires
delete_all-next-requires c = can_apply c.args.s c.args.tank c.args.hold c.args.most c.args.plan c.requires c.if-tank-ge8.false c.take.ensures _ c.may_go.ensures c.if-not-may_go.false

-- src/lib.rt:165:9
pub returns-then-most-runs_of : goal.returns-then-most-runs_of
returns-then-most-runs_of c =
    plan_many c.args.s c.args.tank c.args.hold c.args.most c.args.plan c.requires c.if-tank-ge8.false c.take.ensures _ c.may_go.ensures c.if-not-may_go.false
    c.delete_all-next.ensures _ c.runs_of.ensures c.if-most-runs_of.true

-- src/lib.rt:147:1
pub returns : goal.returns
returns c =
    plan_done c.args.s c.args.tank c.args.hold c.args.most c.args.plan c.requires c.if-tank-ge8.false c.take.ensures _ c.may_go.ensures c.if-not-may_go.false
    c.delete_all-next.ensures _ c.runs_of.ensures c.if-most-runs_of.false
