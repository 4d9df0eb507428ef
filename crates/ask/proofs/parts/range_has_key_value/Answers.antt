-- `range_has_key_value` meets its contract: the tests in turn, and then the value at every position.
use mathlib.Core.Path.{refl, sym, ap, ◌∙◌}
use Rattle.styles.specs.Values.{value_nan}
use native.Mathlib.Omega.{arith}
use Rattle.questions.specs.declared.Told.{Told}
use Rattle.questions.specs.Questions.{told_of, range_has_key_value}
use Rattle.questions.proofs.QuestionLaws.{no_empty, told_4, told_6, no_untouched, told_done}
use Rattle.tanks.specs.Looks.{shown_in}
use Rattle.ask.proofs.Standing.{none_there, one_there, long_there, touched_there}
use Rattle.ask.proofs.parts.range_has_key_value.Goals as goal

pub returns-then-tank-ge8 : goal.returns-then-tank-ge8
returns-then-tank-ge8 c =
    let a = c.args in
    none_there a.heads a.pool a.table a.tank a.who (Told.Refused 1) (range_has_key_value a.start a.end a.key a.value) c.if-tank-ge8.true refl

pub returns-then-end-start : goal.returns-then-end-start
returns-then-end-start c =
    let a = c.args in
    one_there a.heads a.pool a.table a.tank a.who (Told.Refused 1) (range_has_key_value a.start a.end a.key a.value) c.if-tank-ge8.false
    (no_empty (shown_in a.heads a.pool a.table a.tank a.who) a.start a.end (value_nan a.value) _ c.if-end-start.true)

pub returns-then-length_in-end : goal.returns-then-length_in-end
returns-then-length_in-end c =
    let a = c.args in
    one_there a.heads a.pool a.table a.tank a.who (Told.Refused 1) (range_has_key_value a.start a.end a.key a.value) c.if-tank-ge8.false
    (told_4 (shown_in a.heads a.pool a.table a.tank a.who) a.start a.end (value_nan a.value) _ c.if-end-start.false (omega (arith, long_there a.heads a.pool a.table a.tank a.who c.length_in.ensures, c.if-length_in-end.true)))

pub returns-then-value_is_nan : goal.returns-then-value_is_nan
returns-then-value_is_nan c =
    let a = c.args in
    one_there a.heads a.pool a.table a.tank a.who (Told.Refused 1) (range_has_key_value a.start a.end a.key a.value) c.if-tank-ge8.false
    (told_6 (shown_in a.heads a.pool a.table a.tank a.who) a.start a.end (value_nan a.value) _ c.if-end-start.false (omega (arith, long_there a.heads a.pool a.table a.tank a.who c.length_in.ensures, c.if-length_in-end.false)) (sym c.value_is_nan.ensures ∙ c.if-value_is_nan.true))

pub all_show-requires : goal.all_show-requires
all_show-requires c = (c.requires c.if-tank-ge8.false, c.if-end-start.false, omega (arith, c.length_in.ensures, c.if-length_in-end.false))

pub returns-then-touched_in : goal.returns-then-touched_in
returns-then-touched_in c =
    let a = c.args in
    one_there a.heads a.pool a.table a.tank a.who (Told.Refused 1) (range_has_key_value a.start a.end a.key a.value) c.if-tank-ge8.false
    (c.tell.ensures
    ∙ ap (told_of 0) c.all_show.ensures
    ∙ told_done (shown_in a.heads a.pool a.table a.tank a.who) a.start a.end (value_nan a.value) _ c.if-end-start.false (omega (arith, long_there a.heads a.pool a.table a.tank a.who c.length_in.ensures, c.if-length_in-end.false)) (sym c.value_is_nan.ensures ∙ c.if-value_is_nan.false) (touched_there a.heads a.pool a.table a.tank a.who c.touched_in.ensures ∙ c.if-touched_in.true))

pub returns : goal.returns
returns c =
    let a = c.args in
    one_there a.heads a.pool a.table a.tank a.who (Told.Refused 1) (range_has_key_value a.start a.end a.key a.value) c.if-tank-ge8.false
    (no_untouched (shown_in a.heads a.pool a.table a.tank a.who) a.start a.end (value_nan a.value) _ c.if-end-start.false (omega (arith, long_there a.heads a.pool a.table a.tank a.who c.length_in.ensures, c.if-length_in-end.false)) (sym c.value_is_nan.ensures ∙ c.if-value_is_nan.false) (touched_there a.heads a.pool a.table a.tank a.who c.touched_in.ensures ∙ c.if-touched_in.false))
