-- A strip where there is a mark, and a word where there is none.
use Rattle.styles.specs.declared.Party.TheVariants.{Plant}
use Rattle.tanks.specs.House.{shown_at}
use Rattle.tanks.specs.Pool.{meaning}
use Rattle.answers.proofs.Laws.{and_then, adds_as}
use Rattle.glance.specs.Glance.{marked_end, cells_say}
use Rattle.glance.proofs.Laws.{none_marked, some_marked}
use Rattle.glance.proofs.strips.strip_of.Goals as goal

pub returns-then-end-lt1 : goal.returns-then-end-lt1
returns-then-end-lt1 c =
    let a = c.args in
    let v = shown_at (meaning a.s) Plant a.tank in
    let m = c.marked_end-end in
    and_then c.say_right-a.ensures (adds_as (none_marked m.result (marked_end v) m.ensures _ _ c.if-end-lt1.true) c.say.ensures)

pub returns : goal.returns
returns c =
    let a = c.args in
    let v = shown_at (meaning a.s) Plant a.tank in
    let m = c.marked_end-end in
    and_then c.say_right-a.ensures (adds_as (some_marked m.result (marked_end v) m.ensures _ (cells_say v a.keys a.letters) c.if-end-lt1.false c.cell_of.ensures.0) c.cells.ensures)
