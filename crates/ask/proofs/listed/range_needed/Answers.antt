-- `range_needed` meets its contract: an empty range, one past the length, or the stretches counted.
use mathlib.Core.Path.{◌∙◌}
use native.Mathlib.Omega.{arith}
use Rattle.lists.specs.Lists.{list_over}
use Rattle.lists.proofs.ListLaws.{needed_empty, needed_over, needed_is}
use Rattle.tanks.specs.Looks.{shown_in}
use Rattle.tanks.proofs.LookLaws.{shown_length}
use Rattle.ask.proofs.AskLaws.{listed_eq}
use Rattle.ask.proofs.listed.range_needed.Goals as goal

pub returns-then-end-start : goal.returns-then-end-start
returns-then-end-start c =
    let a = c.args in
    listed_eq _ _ _ c.counted.ensures.0 c.counted.ensures.1 ∙ needed_empty a.start a.end (shown_in a.heads a.pool a.table a.t a.who) c.if-end-start.true

pub returns-then-length_in-end : goal.returns-then-length_in-end
returns-then-length_in-end c =
    let a = c.args in
    c.refused.ensures
    ∙ needed_over a.start a.end (shown_in a.heads a.pool a.table a.t a.who) c.if-end-start.false
    (omega (arith, c.length_in.ensures, c.if-length_in-end.true, shown_length a.heads a.pool a.table a.t a.who))

pub returns : goal.returns
unfolding list_over
returns c =
    let a = c.args in
    listed_eq _ _ _ c.counted-2.ensures.0 c.counted-2.ensures.1
    ∙ needed_is a.start a.end (shown_in a.heads a.pool a.table a.t a.who) c.needed.result c.if-end-start.false
    (omega (arith, c.length_in.ensures, c.if-length_in-end.false, shown_length a.heads a.pool a.table a.t a.who)) c.needed.ensures
