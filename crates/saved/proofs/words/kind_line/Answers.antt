-- The line ends where the newline stands; where there is none, it is wrong.
use Rattle.saved.proofs.WordLaws.{kind_here, kind_nowhere}
use Rattle.saved.proofs.words.kind_line.Goals as goal

pub returns-then-end-bytes : goal.returns-then-end-bytes
returns-then-end-bytes c =
    let a = c.args in
    kind_here a.bytes.now a.from c.find-end.result c.find-end.ensures c.if-end-bytes.true c.kind_after.result c.kind_after.ensures

pub returns : goal.returns
returns c =
    let a = c.args in
    kind_nowhere a.bytes.now a.from c.find-end.result c.find-end.ensures c.if-end-bytes.false
