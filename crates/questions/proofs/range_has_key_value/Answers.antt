-- `range_has_key_value` meets its contract: the tests in turn, and then the masks of key and value over the runs.
use Rattle.styles.specs.Values.{value_nan}
use Rattle.tank.specs.State.{view}
use Rattle.questions.proofs.QuestionLaws.{no_empty, told_4, told_6, no_untouched, value_done}
use borrow.Author.Tests.{not-true, not-false}
use mathlib.Core.Path.{sym, ◌∙◌}
use Rattle.questions.proofs.range_has_key_value.Goals as goal

pub returns-then-end-start : goal.returns-then-end-start
returns-then-end-start c = no_empty (view c.args.t) c.args.start c.args.end (value_nan c.args.value) _ c.if-end-start.true

pub returns-then-t-end : goal.returns-then-t-end
unfolding view
returns-then-t-end c = told_4 (view c.args.t) c.args.start c.args.end (value_nan c.args.value) _ c.if-end-start.false c.if-t-end.true

pub returns-then-value_is_nan : goal.returns-then-value_is_nan
unfolding view
returns-then-value_is_nan c =
    told_6 (view c.args.t) c.args.start c.args.end (value_nan c.args.value) _ c.if-end-start.false c.if-t-end.false
    (sym c.value_is_nan.ensures ∙ c.if-value_is_nan.true)

pub returns-then-not-t : goal.returns-then-not-t
unfolding view
returns-then-not-t c =
    no_untouched (view c.args.t) c.args.start c.args.end (value_nan c.args.value) _ c.if-end-start.false c.if-t-end.false
    (sym c.value_is_nan.ensures ∙ c.if-value_is_nan.false) (not-true _ c.if-not-t.true)

pub returns : goal.returns
returns c =
    c.tell.ensures
    ∙ value_done c.requires c.args.start c.args.end c.if-end-start.false c.if-t-end.false (not-false _ c.if-not-t.false) c.args.key c.args.value
    (sym c.value_is_nan.ensures ∙ c.if-value_is_nan.false) c.key_bits-keyed.ensures c.value_bits-valued.ensures c.all_show.ensures
