-- The two renumberings, a bit opened and bits squeezed out: both keep different sets different, so a joined list stays joined, and both go
-- through the union of all sets.
use Prim.Native.Nat.{ℕ, zero, suc, ◌/◌, ◌%◌, ◌^◌, ◌≤◌, ◌<◌, min}
use mathlib.Core.Path.{◌≡◌}
use mathlib.Core.List.{List}
use native.Mathlib.Omega.{arith}
use native.Mathlib.Nat.{pow-suc, min-le_left}
use lib.Bits.{bit_and, and_step, and_le_r}
use Rattle.styles.proofs.BitLaws.{open_zero, open_suc}
use Rattle.styles.specs.Bits.{open_bit}
use Rattle.styles.proofs.Built.{squeeze, squeeze_step}
use Rattle.styles.proofs.UnionLaws.{open_or, squeeze_or, open_none, squeeze_none}
use Rattle.runs.specs.Runs.{Run, Canon}
use Rattle.runs.specs.Gather.{gather}
use Rattle.runs.proofs.MapLaws.{AllSets, map_runs, canon_map}
use Rattle.runs.proofs.GatherLaws.{all_sets_map, sets_within, gather_map}

-- ---- the sets of a list
pub sets_less : (n : ℕ) (rs : List Run) → gather rs < 2 ^ n → AllSets (λ s. s < 2 ^ n) rs
sets_less n rs h = all_sets_map _ _ (λ s e. omega (arith, and_le_r s (gather rs), e)) rs (sets_within rs)

-- ---- a bit opened
pub open_tells : (i x y : ℕ) → open_bit i x ≡ open_bit i y → x ≡ y
open_tells zero x y e = omega (arith, open_zero x, open_zero y)
open_tells (suc i) x y e = omega (arith, open_suc i x, open_suc i y, open_tells i (x / 2) (y / 2) (omega (arith, open_suc i x, open_suc i y)))

pub canon_open : (i : ℕ) (rs : List Run) → Canon rs → Canon (map_runs (open_bit i) rs)
canon_open i rs c = canon_map (open_bit i) _ (λ x y a b e. open_tells i x y e) rs (sets_within rs) c

pub gather_open : (i : ℕ) (rs : List Run) → gather (map_runs (open_bit i) rs) ≡ open_bit i (gather rs)
gather_open i rs = gather_map (open_bit i) (open_none i) (open_or i) rs

-- ---- bits squeezed out
and_halves : (a b : ℕ) → bit_and a b ≡ a → (bit_and (a / 2) (b / 2) ≡ a / 2) × (a % 2 ≤ b % 2)
and_halves a b e =
    let h : min (a % 2) (b % 2) ≤ a % 2 = min-le_left (a % 2) (b % 2) in
    let s = and_step a b in
    (omega arith, omega arith)

step_tells : (c b d q r : ℕ) → b < 2 → d < 2 → b ≤ c → d ≤ c → squeeze_step c b q ≡ squeeze_step c d r → (b ≡ d) × (q ≡ r)
step_tells zero b d q r h k l m e = (omega arith, e)
step_tells (suc c) b d q r h k l m e = (omega arith, omega arith)

pub squeeze_tells : (k mask x y : ℕ) → mask < 2 ^ k → bit_and x mask ≡ x → bit_and y mask ≡ y → squeeze k mask x ≡ squeeze k mask y → x ≡ y
unfolding squeeze
squeeze_tells zero mask x y h a b e = omega (arith, and_le_r x mask, and_le_r y mask)
squeeze_tells (suc k) mask x y h a b e =
    let p = pow-suc 2 k in
    let s = step_tells (mask % 2) (x % 2) (y % 2) (squeeze k (mask / 2) (x / 2)) (squeeze k (mask / 2) (y / 2)) (omega arith) (omega arith) (and_halves x mask a).1 (and_halves y mask b).1 e in
    omega (arith, s.0, squeeze_tells k (mask / 2) (x / 2) (y / 2) (omega arith) (and_halves x mask a).0 (and_halves y mask b).0 s.1)

pub canon_squeeze : (mask : ℕ) (rs : List Run) → mask < 2 ^ 64 → AllSets (λ s. bit_and s mask ≡ s) rs → Canon rs → Canon (map_runs (squeeze 64 mask) rs)
canon_squeeze mask rs h a c = canon_map (squeeze 64 mask) (λ s. bit_and s mask ≡ s) (λ x y l m e. squeeze_tells 64 mask x y h l m e) rs a c

pub gather_squeeze : (mask : ℕ) (rs : List Run) → gather (map_runs (squeeze 64 mask) rs) ≡ squeeze 64 mask (gather rs)
gather_squeeze mask rs = gather_map (squeeze 64 mask) (squeeze_none 64 mask) (squeeze_or 64 mask) rs
