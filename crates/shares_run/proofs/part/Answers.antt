-- `part` meets its contract: a remainder is below what was divided by.
use Prim.Native.Nat.{◌/◌, ◌<◌}
use native.Mathlib.Nat.{mod-lt}
use native.Mathlib.Omega.{arith}
use Rattle.shares_run.proofs.part.Goals as goal

pub returns : goal.returns
returns c = let h : 0 < c.args.n = omega arith in omega (arith, mod-lt (c.args.x / 65536) h)
