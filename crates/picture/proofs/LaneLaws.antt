-- Lanes: which marks they are counted from, and where they lie.
use Prim.Native.Nat.{ℕ, ◌+◌, ◌*◌, ◌/◌, ◌≤◌, ◌<◌}
use mathlib.Core.Bool.{Bool, true, false, cond, true≢false}
use mathlib.Core.Path.{◌≡◌, refl, sym, ap, ap₂, ◌∙◌}
use native.Mathlib.Nat.{mul-le-mul_right, div-le_of_le-mul}
use native.Mathlib.Omega.{arith}
use borrow.Author.Tests.{lt-ltb, le-ltb}
use mir.Val.{bool_byte}
use Rattle.tank.specs.Rules.{View, carried}
use Rattle.runs.specs.Positions.{sum_below}
use Rattle.runs.proofs.SumLaws.{sum_more, sum_next}
use Rattle.picture.specs.Lanes.{any_key, occurs}

-- ---- one or none
pub one_is : (b : Bool) → bool_byte b ≡ cond b 1 0
one_is true = refl
one_is false = refl

pub one_most : (b : Bool) → bool_byte b ≤ 1
one_most true = omega arith
one_most false = omega arith

no_both : false ≡ true → ⊥
no_both e = true≢false (sym e)

-- ---- a key that occurs
module _ (v : View) (key : ℕ) where
  pub occurs_not : 65535 < key → false ≡ occurs v key
  occurs_not h = sym (ap (λ (b : Bool). cond b false (any_key key key (carried v))) (lt-ltb 65535 key h))

  pub occurs_by : key ≤ 65535 → occurs v key ≡ any_key key key (carried v)
  occurs_by h = ap (λ (b : Bool). cond b false (any_key key key (carried v))) (le-ltb 65535 key h)

-- ---- where a lane lies
module _ (r n height : ℕ) (some : 0 < n) (h : r ≤ n) where
  -- not past the band
  pub down_most : r * height / n ≤ height
  down_most = div-le_of_le-mul n (mul-le-mul_right height h)

-- ---- how many lanes
pub lane_room : (f : ℕ → ℕ) (r j n count : ℕ) → r ≡ sum_below f j → j < n → sum_below f n ≤ count → r + f j ≤ count
lane_room f r j n count e h k = omega (arith, e, sum_next f j n h)

pub lane_next : (f : ℕ → ℕ) (r x j : ℕ) → r ≡ sum_below f j → x ≡ f j → r + x ≡ sum_below f (j + 1)
lane_next f r x j e g = ap₂ (λ (a b : ℕ). a + b) e g ∙ sym (sum_more f j)
