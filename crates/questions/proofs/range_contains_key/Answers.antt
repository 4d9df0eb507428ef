-- `range_contains_key` meets its contract: the tests in turn, and then the key's mask over the runs.
use Rattle.tank.specs.State.{view}
use Rattle.questions.proofs.QuestionLaws.{no_empty, told_4, no_untouched, key_done}
use borrow.Author.Tests.{not-true, not-false}
use mathlib.Core.Bool.{false}
use mathlib.Core.Path.{refl, ◌∙◌}
use Rattle.questions.proofs.range_contains_key.Goals as goal

pub returns-then-end-start : goal.returns-then-end-start
returns-then-end-start c = no_empty (view c.args.t) c.args.start c.args.end false _ c.if-end-start.true

pub returns-then-t-end : goal.returns-then-t-end
unfolding view
returns-then-t-end c = told_4 (view c.args.t) c.args.start c.args.end false _ c.if-end-start.false c.if-t-end.true

pub returns-then-not-t : goal.returns-then-not-t
unfolding view
returns-then-not-t c = no_untouched (view c.args.t) c.args.start c.args.end false _ c.if-end-start.false c.if-t-end.false refl (not-true _ c.if-not-t.true)

pub returns : goal.returns
returns c =
    c.tell.ensures
    ∙ key_done c.requires c.args.start c.args.end c.if-end-start.false c.if-t-end.false (not-false _ c.if-not-t.false) c.args.key c.key_bits-mask.ensures
    c.any_in.ensures
