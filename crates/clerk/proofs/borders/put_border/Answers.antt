-- `put_border` meets its contract: the starts alone, the ends alone, or both.
use mathlib.Core.Path.{refl}
use Rattle.answers.proofs.Laws.{adds_as, and_then}
use Rattle.clerk.proofs.Lists.{both_sides, starts_alone, ends_alone}
use Rattle.clerk.proofs.borders.put_border.Goals as goal

pub returns-then-ends-eq0 : goal.returns-then-ends-eq0
returns-then-ends-eq0 c =
    let a = c.args in
    adds_as (starts_alone a.table.marks a.pos a.before a.behind refl c.lacking-ends.ensures c.lacking-starts.ensures c.if-ends-eq0.true) c.put_side.ensures

pub returns-then-starts-eq0 : goal.returns-then-starts-eq0
returns-then-starts-eq0 c =
    let a = c.args in
    adds_as (ends_alone a.table.marks a.pos a.before a.behind c.saturating_sub.ensures c.lacking-ends.ensures c.lacking-starts.ensures c.if-starts-eq0.true) c.put_side-k.ensures

pub returns : goal.returns
returns c =
    let a = c.args in
    adds_as (both_sides a.table.marks a.pos a.before a.behind c.saturating_sub.ensures c.lacking-ends.ensures c.lacking-starts.ensures) (and_then c.put_side-k.ensures c.put_side-2.ensures)
