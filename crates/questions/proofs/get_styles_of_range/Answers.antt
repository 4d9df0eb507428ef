-- `get_styles_of_range` meets its contract: the tests in turn, and then the first position's set where its run reaches so far.
use Rattle.questions.proofs.QuestionLaws.{shared_3, shared_4, none_untouched, none_shared, shared_done, reaches, found_here, set_inside}
use borrow.Author.Tests.{not-true, not-false, le-leb, lt-leb}
use mathlib.Core.Path.{◌∙◌}
use native.Mathlib.Omega.{arith}
use Rattle.questions.proofs.get_styles_of_range.Goals as goal

pub returns-then-end-start : goal.returns-then-end-start
returns-then-end-start c = c.not_shared.ensures ∙ shared_3 c.requires c.args.start c.args.end c.if-end-start.true

pub returns-then-t-end : goal.returns-then-t-end
returns-then-t-end c = c.not_shared-then-t-end.ensures ∙ shared_4 c.requires c.args.start c.args.end c.if-end-start.false c.if-t-end.true

pub returns-then-not-t : goal.returns-then-not-t
returns-then-not-t c =
    c.not_shared-then-not-t.ensures
    ∙ none_untouched c.requires c.args.start c.args.end c.if-end-start.false c.if-t-end.false (not-true _ c.if-not-t.true)

pub returns-then-f-end : goal.returns-then-f-end
returns-then-f-end c =
    let p = c.place_at-f.ensures in
    c.not_shared-then-f-end.ensures
    ∙ none_shared c.requires c.args.start c.args.end c.if-end-start.false c.if-t-end.false (not-false _ c.if-not-t.false) _
    (reaches c.requires p.0 p.1 c.args.end c.if-end-start.false c.if-t-end.false)
    (lt-leb c.args.end c.place_at-f.result.end c.if-f-end.true)

pub styles_of-styles-requires : goal.styles_of-styles-requires
styles_of-styles-requires c =
    let p = c.place_at-f.ensures in
    (c.requires.laid.few, omega (arith, found_here c.requires p.0 p.1, set_inside c.requires c.args.start))

pub returns : goal.returns
returns c =
    let p = c.place_at-f.ensures in
    shared_done c.requires c.args.start c.args.end c.if-end-start.false c.if-t-end.false (not-false _ c.if-not-t.false) _
    (reaches c.requires p.0 p.1 c.args.end c.if-end-start.false c.if-t-end.false)
    (le-leb c.args.end c.place_at-f.result.end c.if-f-end.false) (found_here c.requires p.0 p.1) c.styles_of-styles.ensures
