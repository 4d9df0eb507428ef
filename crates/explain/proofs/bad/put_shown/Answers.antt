-- Nothing of an empty line.
use native.Mathlib.Omega.{arith}
use lib.ListN.{length-map}
use Rattle.script.proofs.PutLaws.{puts_then, puts_all, puts_more}
use Rattle.explain.specs.Told.{byte_shown}
use Rattle.explain.proofs.Choices.{none_shown, line_shown_lem}
use Rattle.explain.proofs.bad.put_shown.Goals as goal

pub returns-then-line-eq0 : goal.returns-then-line-eq0
returns-then-line-eq0 c = none_shown c.args.line.now c.if-line-eq0.true (puts_more (omega arith) (puts_all c.put.ensures))

pub returns : goal.returns
returns c =
    let line = c.args.line.now in
    line_shown_lem line c.if-line-eq0.false
    (puts_more (omega (arith, c.requires.0, length-map line byte_shown)) (puts_then (omega (arith, c.requires.1)) (puts_all c.put-a.ensures) (puts_all c.put_bytes.ensures)))
