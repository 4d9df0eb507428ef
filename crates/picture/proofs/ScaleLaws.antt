-- The scale of a band: it never falls, begins at 0, and ends at 900.
use Prim.Native.Nat.{ℕ, ◌*◌, ◌/◌, ◌≤◌, ◌<◌, min}
use mathlib.Core.Path.{◌≡◌, ap, ◌∙◌}
use native.Mathlib.Nat.{le_trans, mul-div_cancel_left, zero-div, div-le_of_le-mul, le-div_iff_mul-le, mul-le-mul_right, div-mul-le_self}
use native.Mathlib.Omega.{arith}
use Rattle.picture.specs.Scale.{unit_of, whole_of, place_of}

-- a quotient does not fall
pub div_le_div : (a b k : ℕ) → 0 < k → a ≤ b → a / k ≤ b / k
div_le_div a b k some h = (le-div_iff_mul-le some).1 (le_trans (div-mul-le_self a k) h)

-- part of a whole
pub share_most : (part whole : ℕ) → 0 < whole → part ≤ whole → part * 900 / whole ≤ 900
share_most part whole some h = div-le_of_le-mul whole (mul-le-mul_right 900 h)

module _ (end : ℕ) (some : 0 < end) where
  -- the band has at least one unit
  pub whole_some : 0 < whole_of end
  whole_some = (le-div_iff_mul-le {k = unit_of end} {x = 1} {y = end} (omega arith)).1 (omega arith)

  -- never over the right edge
  pub place_most : (pos : ℕ) → place_of end pos ≤ 900
  unfolding place_of
  place_most pos = share_most (min (pos / unit_of end) (whole_of end)) (whole_of end) whole_some (omega arith)

  -- position 0 stands at the left edge
  pub place_first : place_of end 0 ≡ 0
  unfolding place_of
  place_first =
      let z : min (0 / unit_of end) (whole_of end) * 900 ≡ 0 = let e = zero-div (unit_of end) in omega arith in
      ap (λ (x : ℕ). x / whole_of end) z ∙ zero-div (whole_of end)

  -- the end of the marked part at the right one
  pub place_last : place_of end end ≡ 900
  unfolding place_of
  place_last =
      let e : min (end / unit_of end) (whole_of end) ≡ whole_of end = omega arith in
      ap (λ (x : ℕ). x * 900 / whole_of end) e ∙ mul-div_cancel_left 900 whole_some

  -- a later position stands no further left
  pub place_rises : (a b : ℕ) → a ≤ b → place_of end a ≤ place_of end b
  unfolding place_of
  place_rises a b h =
      let q = div_le_div a b (unit_of end) (omega arith) h in
      let m : min (a / unit_of end) (whole_of end) ≤ min (b / unit_of end) (whole_of end) = omega arith in
      div_le_div (min (a / unit_of end) (whole_of end) * 900) (min (b / unit_of end) (whole_of end) * 900) (whole_of end) whole_some (mul-le-mul_right 900 m)
