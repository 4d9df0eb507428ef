-- Before version 2 there is no line; else it ends where the newline stands, and where there is none, it is wrong.
use native.Mathlib.Omega.{arith}
use Rattle.saved.proofs.WordLaws.{party_missing, party_here, party_nowhere}
use Rattle.saved.proofs.words.party_line.Goals as goal

pub returns-then-version-lt2 : goal.returns-then-version-lt2
returns-then-version-lt2 c = party_missing c.args.version c.args.least c.args.bytes.now c.args.from c.args.n c.if-version-lt2.true c.requires.1

pub returns-then-end-bytes : goal.returns-then-end-bytes
returns-then-end-bytes c =
    let a = c.args in
    party_here a.version a.least a.bytes.now a.from a.n (omega (arith, c.if-version-lt2.false)) c.find-end.result c.find-end.ensures c.if-end-bytes.true c.party_after.result c.party_after.ensures

pub returns : goal.returns
returns c =
    let a = c.args in
    party_nowhere a.version a.least a.bytes.now a.from a.n (omega (arith, c.if-version-lt2.false)) c.find-end.result c.find-end.ensures c.if-end-bytes.false
