-- The line ends where the newline stands; where there is none, it is wrong.
use Rattle.saved.proofs.WordLaws.{value_here, value_nowhere}
use Rattle.saved.proofs.words.value_line.Goals as goal

pub returns-then-end-bytes : goal.returns-then-end-bytes
returns-then-end-bytes c =
    let a = c.args in
    value_here a.kind a.bytes.now a.from c.find-end.result c.find-end.ensures c.if-end-bytes.true c.value_after.result c.value_after.ensures

pub returns : goal.returns
returns c =
    let a = c.args in
    value_nowhere a.kind a.bytes.now a.from c.find-end.result c.find-end.ensures c.if-end-bytes.false
