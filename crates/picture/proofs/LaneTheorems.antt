-- Where lanes lie: within their band, and, where the band is at least as high as they are many, one under the other.
use Prim.Native.Nat.{ℕ, suc, ◌+◌, ◌*◌, ◌≤◌, ◌<◌}
use mathlib.Core.Path.{◌≡◌, ap, ◌∙◌}
use native.Mathlib.Nat.{add-mul, one-mul, mul_comm, mul-le-mul_right, div-lt_iff_lt-mul, add-mul-div_right}
use native.Mathlib.Omega.{arith}
use Rattle.picture.specs.declared.scale.Band.{Band}
use Rattle.picture.specs.Lanes.{lane_in}
use Rattle.picture.proofs.ScaleLaws.{div_le_div}
use Rattle.picture.proofs.LaneLaws.{down_most}

one_more : (r height : ℕ) → (r + 1) * height ≡ r * height + height
one_more r height = add-mul r 1 height ∙ ap (λ (x : ℕ). r * height + x) (one-mul height)

module _ (b : Band) (r n : ℕ) (h : r < n) where
  -- a lane lies within its band
  pub lane_inside : 0 < b.height → (lane_in b r n).top + (lane_in b r n).height ≤ b.top + b.height
  lane_inside high =
      let e = one_more r b.height in
      let m = mul-le-mul_right b.height h in
      let s : suc r * b.height ≡ (r + 1) * b.height = ap (λ (k : ℕ). k * b.height) (omega arith) in
      let z = mul_comm n b.height in
      let below = down_most (r + 1) n b.height (omega arith) (omega arith) in
      let low = (div-lt_iff_lt-mul {k = n} {x = r * b.height} {y = b.height} (omega arith)).1 (omega arith) in
      omega arith

  -- the next one begins where it ends
  pub lane_next_to : n ≤ b.height → (lane_in b r n).top + (lane_in b r n).height ≡ (lane_in b (r + 1) n).top
  lane_next_to many =
      let e = one_more r b.height in
      let up = div_le_div (r * b.height + 1 * n) ((r + 1) * b.height) n (omega arith) (omega arith) in
      let one = add-mul-div_right (r * b.height) 1 {z = n} (omega arith) in
      omega arith
