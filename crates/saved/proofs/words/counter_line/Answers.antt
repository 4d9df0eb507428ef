-- Before version 3 there is no line; else it ends where the newline stands, and where there is none, it is wrong.
use native.Mathlib.Omega.{arith}
use Rattle.saved.proofs.WordLaws.{counter_missing, counter_here, counter_nowhere}
use Rattle.saved.proofs.words.counter_line.Goals as goal

pub returns-then-version-lt3 : goal.returns-then-version-lt3
returns-then-version-lt3 c = counter_missing c.args.version c.args.bytes.now c.args.from c.args.n c.if-version-lt3.true c.requires.1

pub returns-then-end-bytes : goal.returns-then-end-bytes
returns-then-end-bytes c =
    let a = c.args in
    counter_here a.version a.bytes.now a.from a.n (omega (arith, c.if-version-lt3.false)) c.find-end.result c.find-end.ensures c.if-end-bytes.true c.counter_after.result c.counter_after.ensures

pub returns : goal.returns
returns c =
    let a = c.args in
    counter_nowhere a.version a.bytes.now a.from a.n (omega (arith, c.if-version-lt3.false)) c.find-end.result c.find-end.ensures c.if-end-bytes.false
