-- `get_styles_of_range` meets its contract: the tests in turn, and then the first position's marks where all agree.
use mathlib.Core.Bool.{false}
use mathlib.Core.List.{[]}
use mathlib.Core.Path.{◌∙◌}
use native.Mathlib.Omega.{arith}
use Rattle.questions.specs.Questions.{shared_of, styles_of_range}
use Rattle.tanks.specs.Looks.{shown_in}
use Rattle.ask.proofs.Standing.{none_there, one_there, long_there, touched_there, shared_3, shared_4, shared_untouched, shared_done}
use Rattle.ask.proofs.parts.get_styles_of_range.Goals as goal

pub returns-then-tank-ge8 : goal.returns-then-tank-ge8
returns-then-tank-ge8 c =
    let a = c.args in
    none_there a.heads a.pool a.table a.tank a.who (shared_of 1 false []) (styles_of_range a.start a.end) c.if-tank-ge8.true c.not_shared.ensures

pub returns-then-end-start : goal.returns-then-end-start
returns-then-end-start c =
    let a = c.args in
    one_there a.heads a.pool a.table a.tank a.who (shared_of 1 false []) (styles_of_range a.start a.end) c.if-tank-ge8.false
    (c.not_shared-then-end-start.ensures ∙ shared_3 (shown_in a.heads a.pool a.table a.tank a.who) a.start a.end c.if-end-start.true)

pub returns-then-length_in-end : goal.returns-then-length_in-end
returns-then-length_in-end c =
    let a = c.args in
    one_there a.heads a.pool a.table a.tank a.who (shared_of 1 false []) (styles_of_range a.start a.end) c.if-tank-ge8.false
    (c.not_shared-then-length_in-end.ensures ∙ shared_4 (shown_in a.heads a.pool a.table a.tank a.who) a.start a.end c.if-end-start.false (omega (arith, long_there a.heads a.pool a.table a.tank a.who c.length_in.ensures, c.if-length_in-end.true)))

pub shared_in-requires : goal.shared_in-requires
shared_in-requires c = (c.requires c.if-tank-ge8.false, c.if-end-start.false, omega (arith, c.length_in.ensures, c.if-length_in-end.false))

pub returns-then-touched_in : goal.returns-then-touched_in
returns-then-touched_in c =
    let a = c.args in
    one_there a.heads a.pool a.table a.tank a.who (shared_of 1 false []) (styles_of_range a.start a.end) c.if-tank-ge8.false
    (c.shared_in.ensures ∙ shared_done (shown_in a.heads a.pool a.table a.tank a.who) a.start a.end c.if-end-start.false (omega (arith, long_there a.heads a.pool a.table a.tank a.who c.length_in.ensures, c.if-length_in-end.false)) (touched_there a.heads a.pool a.table a.tank a.who c.touched_in.ensures ∙ c.if-touched_in.true))

pub returns : goal.returns
returns c =
    let a = c.args in
    one_there a.heads a.pool a.table a.tank a.who (shared_of 1 false []) (styles_of_range a.start a.end) c.if-tank-ge8.false
    (c.not_shared-2.ensures ∙ shared_untouched (shown_in a.heads a.pool a.table a.tank a.who) a.start a.end c.if-end-start.false (omega (arith, long_there a.heads a.pool a.table a.tank a.who c.length_in.ensures, c.if-length_in-end.false)) (touched_there a.heads a.pool a.table a.tank a.who c.touched_in.ensures ∙ c.if-touched_in.false))
