-- Within a body, or in the lines.
use native.Mathlib.Omega.{arith}
use Rattle.script.proofs.BodyLaws.{takes_line}
use Rattle.script.proofs.bodies.take.Goals as goal

pub returns : goal.returns
returns c = takes_line c.args.i _ _ _ _ _ c.requires.0 (omega (arith, c.if-i-gt0.false)) c.requires.2 c.feed-f.ensures c.after_line.ensures
