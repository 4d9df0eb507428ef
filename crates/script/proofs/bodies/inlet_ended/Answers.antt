-- Within a body, or in the lines.
use mathlib.Core.Path.{◌≡◌, ◌∙◌}
use Prim.Native.Nat.{ℕ, ◌≤◌, ◌<◌}
use native.Mathlib.Omega.{arith}
use borrow.Author.Tests.{eq-eqb, ne_eqb}
use Rattle.script.specs.declared.Ending.{Ending}
use Rattle.script.specs.Lines.{State, ending_of}
use Rattle.script.specs.Bodies.{ending_in}
use Rattle.script.proofs.bodies.inlet_ended.Goals as goal

module _ (left : ℕ) (s : State) where
  within : 0 < left → Ending.Cut ≡ ending_in left s
  unfolding ending_in
  within h = rw (ne_eqb left 0 (λ e. omega arith))

  between : left ≤ 0 → ending_of s ≡ ending_in left s
  unfolding ending_in
  between h = let e : left ≡ 0 = omega arith in rw (eq-eqb left 0 e)

pub returns-then-i-gt0 : goal.returns-then-i-gt0
returns-then-i-gt0 c = within _ _ c.if-i-gt0.true

pub returns : goal.returns
returns c = c.ended.ensures ∙ between _ _ c.if-i-gt0.false
