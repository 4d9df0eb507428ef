-- `minus` meets its contract: 0 and all over the bound are bad; of the rest -(n - 1) - 1 is -n, and stays within 64 bits on the way.
use Rattle.std.specs.Prelude.{Some}
use mathlib.Core.Path.{ap}
use Prim.Native.Nat.{◌-◌}
use native.Mathlib.Omega.{arith}
use Rattle.text.proofs.Negated.{first_fits, second_fits, below_zero}
use borrow.Author.Tests.{lt-ltb, le-ltb}
use Rattle.text.specs.Signed.{minus_of}
use Rattle.text.proofs.minus.Goals as goal

pub returns-in_err-n : goal.returns-in_err-n
unfolding minus_of
returns-in_err-n c = rw c.in_err-n.was c.from_residual.ensures

pub returns-then-n-lt1 : goal.returns-then-n-lt1
unfolding minus_of
returns-then-n-lt1 c = rw c.in_ok-n.was (simp (lt-ltb _ _ c.if-n-lt1.true))

pub returns-then-n-bound : goal.returns-then-n-bound
unfolding minus_of
returns-then-n-bound c = rw c.in_ok-n.was (simp (le-ltb _ _ c.if-n-lt1.false, lt-ltb _ _ c.if-n-bound.true))

pub overflow_sub-result-2 : goal.overflow_sub-result-2
overflow_sub-result-2 c = first_fits (c.in_ok-n.n - 1) (omega arith)

pub overflow_sub-result-3 : goal.overflow_sub-result-3
overflow_sub-result-3 c = second_fits (c.in_ok-n.n - 1) (omega arith)

pub returns : goal.returns
unfolding minus_of
returns c = rw c.in_ok-n.was (simp (le-ltb _ _ c.if-n-lt1.false, le-ltb _ _ c.if-n-bound.false) (ap Some (below_zero (c.in_ok-n.n - 1) (omega arith))))
