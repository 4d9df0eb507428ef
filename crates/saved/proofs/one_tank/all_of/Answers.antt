-- A bit less one, or all bits.
use mathlib.Core.Path.{◌≡◌, ap}
use Prim.Native.Nat.{ℕ, ◌-◌, ◌^◌}
use native.Mathlib.Omega.{arith}
use lib.Pow.{pow_pos}
use Rattle.styles.proofs.BitLaws.{shl_one}
use Rattle.saved.proofs.one_tank.all_of.Goals as goal

pub overflow_sub-result : goal.overflow_sub-result
overflow_sub-result c = omega (arith, shl_one c.args.marks c.if-marks-lt64.true, pow_pos c.args.marks)

pub returns-then-marks-lt64 : goal.returns-then-marks-lt64
returns-then-marks-lt64 c = ap (λ (x : ℕ). x - 1) (shl_one c.args.marks c.if-marks-lt64.true)

pub returns : goal.returns
returns c = let e : 64 ≡ c.args.marks = omega (arith, c.if-marks-lt64.false, c.requires) in ap (λ (x : ℕ). 2 ^ x - 1) e
