-- `scan::here` meets its contract.
use native.Mathlib.Omega.{arith}
use borrow.Author.Tests.{lt-ltb, le-ltb}
use Rattle.runs.proofs.scan.here.Goals as goal

pub returns-then-len-eq0 : goal.returns-then-len-eq0
returns-then-len-eq0 c = simp (le-ltb 0 c.args.len (omega arith))

pub returns : goal.returns
returns c = simp (lt-ltb 0 c.args.len (omega arith)) c.holds.ensures
