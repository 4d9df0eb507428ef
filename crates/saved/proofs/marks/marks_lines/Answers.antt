use native.Mathlib.Omega.{arith}
use Rattle.saved.proofs.MarksRead.{marks_none, mark_wrong, mark_more, marks_done}
use Rattle.saved.proofs.marks.marks_lines.Goals as goal

pub loop-j-init : goal.loop-j-init
loop-j-init c = rw c.blank-table.ensures (marks_none c.args.version c.args.bytes.now c.args.from c.args.n c.args.count c.requires.2)

pub mark_lines-requires : goal.mark_lines-requires
mark_lines-requires c =
    let l = c.loop-j.invariant in
    (omega (arith, l.lines_most, l.few, c.requires.0, c.requires.1), l.inside)

pub returns-in-Err : goal.returns-in-Err
returns-in-Err c =
    let l = c.loop-j in
    rw c.wrong_marks.ensures
    (mark_wrong c.args.version c.args.bytes.now c.args.from c.args.n c.args.count l.table l.at l.lines l.before l.j l.invariant c.requires.1 c.loop-j-test.true c.mark_lines.result c.mark_lines.ensures c.in-Err.line c.in-Err.is)

pub loop-j-preserved : goal.loop-j-preserved
loop-j-preserved c =
    let l = c.loop-j in
    mark_more c.args.version c.args.bytes.now c.args.from c.args.n c.args.count l.table l.at l.lines l.before l.j l.invariant c.requires.1 c.loop-j-test.true c.mark_lines.result c.mark_lines.ensures c.in-Ok.m c.in-Ok.next c.in-Ok.place c.in-Ok.is

pub returns : goal.returns
returns c =
    let l = c.loop-j in
    marks_done c.args.version c.args.bytes.now c.args.from c.args.n c.args.count l.table l.at l.lines l.before l.j l.invariant c.loop-j-test.false
