-- `age_as_plant` meets its contract: the tests in turn, then a deletion of what the budget reaches.
use borrow.Author.Tests.{not-true, not-false}
use Rattle.night.proofs.AgeLaws.{age_1, age_3, age_4, age_untouched, age_none, age_within, age_done}
use Rattle.night.proofs.age_as_plant.Goals as goal

pub returns-then-tank-ge8 : goal.returns-then-tank-ge8
returns-then-tank-ge8 c = age_1 c.args.s c.args.tank c.args.before c.args.budget c.requires c.if-tank-ge8.true _ c.not_aged.ensures

pub returns-then-budget-eq0 : goal.returns-then-budget-eq0
returns-then-budget-eq0 c = age_3 c.args.s c.args.tank c.args.before c.args.budget c.requires c.if-tank-ge8.false c.if-budget-eq0.true _ c.not_aged-then-budget-eq0.ensures

pub returns-then-x-before : goal.returns-then-x-before
returns-then-x-before c = age_4 c.args.s c.args.tank c.args.before c.args.budget c.requires c.if-tank-ge8.false c.if-budget-eq0.false _ c.take-x.ensures c.if-x-before.true _ c.not_aged-then-x-before.ensures

pub returns-then-not-x : goal.returns-then-not-x
returns-then-not-x c =
    age_untouched c.args.s c.args.tank c.args.before c.args.budget c.requires c.if-tank-ge8.false c.if-budget-eq0.false _ c.take-x.ensures c.if-x-before.false
    (not-true _ c.if-not-x.true) _ c.not_aged-then-not-x.ensures

pub returns-then-before-eq0 : goal.returns-then-before-eq0
returns-then-before-eq0 c =
    age_none c.args.s c.args.tank c.args.before c.args.budget c.requires c.if-tank-ge8.false c.if-budget-eq0.false _ c.take-x.ensures c.if-x-before.false
    (not-false _ c.if-not-x.false) c.if-before-eq0.true _ c.not_aged-then-before-eq0.ensures

pub overflow_sub-remaining : goal.overflow_sub-remaining
overflow_sub-remaining c =
    age_within c.args.s c.args.tank c.args.before c.args.budget c.requires c.if-tank-ge8.false c.if-budget-eq0.false _ c.take-x.ensures c.if-x-before.false
    (not-false _ c.if-not-x.false) c.if-before-eq0.false _ _ c.first_stretches-f.ensures.0 c.first_stretches-f.ensures.1

pub returns : goal.returns
returns c =
    age_done c.args.s c.args.tank c.args.before c.args.budget c.requires c.if-tank-ge8.false c.if-budget-eq0.false _ c.take-x.ensures c.if-x-before.false
    (not-false _ c.if-not-x.false) c.if-before-eq0.false _ _ c.first_stretches-f.ensures.0 c.first_stretches-f.ensures.1
    c.delete-done.ensures
