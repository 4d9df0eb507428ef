-- The number of runs of a joined list is a fact about its positions: how many of them start a stretch.
use Prim.Native.Nat.{ℕ, zero, suc, ◌+◌, ◌≤◌, ◌<◌}
use mathlib.Core.Path.{◌≡◌, refl, sym, ◌∙◌}
use mathlib.Core.Bool.{Bool, true, false}
use mathlib.Core.List.{List, [], ◌∷◌}
use native.Mathlib.Omega.{arith}
use lib.Dec.{eqb}
use lib.ListN.{length}
use borrow.Author.Tests.{eq-eqb, ne_eqb}
use Rattle.runs.specs.Runs.{Run, total, set_at, Other, Canon}
use Rattle.runs.specs.Positions.{sum_below, starts, stretch_count}
use Rattle.runs.specs.Stretches.{alike_in}
use Rattle.runs.proofs.Laws.{at_in, at_last}
use Rattle.runs.proofs.SumLaws.{sum_same}

-- ---- tests that agree count alike
starts_ext : (f g : ℕ → Bool) (n : ℕ) → ((p : ℕ) → suc p ≤ n → f p ≡ g p) → starts f n ≡ starts g n
unfolding starts
starts_ext f g zero h = refl
starts_ext f g (suc p) h = rw (h p (omega arith))

pub stretch_count_ext : (f g : ℕ → Bool) (n : ℕ) → ((p : ℕ) → suc p < n → f p ≡ g p) → stretch_count f n ≡ stretch_count g n
stretch_count_ext f g n h = sum_same (starts f) (starts g) n (λ u l. starts_ext f g u (λ p k. h p (omega arith)))

-- positions that are all alike add the start of the first alone
level : (f : ℕ → Bool) (n j : ℕ) → ((p : ℕ) → n ≤ p → p < n + j → f p ≡ true) → stretch_count f (n + suc j) ≡ stretch_count f n + starts f n
unfolding sum_below starts
level f n zero h = let e : n + 1 ≡ suc n = omega arith in rw e
level f n (suc j) h =
    let e : n + suc (suc j) ≡ suc (n + suc j) = omega arith in
    let g : n + suc j ≡ suc (n + j) = omega arith in
    let z : starts f (n + suc j) ≡ 0 = rw g (simp (h (n + j) (omega arith) (omega arith))) in
    rw e (omega (arith, level f n j (λ p a b. h p a (omega arith))))

-- ---- runs
-- the positions of the last run are alike
pub within_alike : (r : Run) (rs : List Run) (p : ℕ) → total rs ≤ p → suc p < total rs + r.len → alike_in (r ∷ rs) p ≡ true
within_alike r rs p a b =
    eq-eqb (set_at (r ∷ rs) p) (set_at (r ∷ rs) (suc p)) (at_last r rs p a (omega arith) ∙ sym (at_last r rs (suc p) (omega arith) b))

-- and the first of them is not like the one before it
pub edge : (r : Run) (rs : List Run) (n : ℕ) → Canon (r ∷ rs) → total rs ≡ suc n → alike_in (r ∷ rs) n ≡ false
unfolding Canon Other total
edge r [] n c e = absurd (omega arith)
edge r (z ∷ zs) n c e =
    let pos = c.2.0 in
    let here = c.0 in
    let a : set_at (r ∷ z ∷ zs) n ≡ z.set = at_in r (z ∷ zs) n (omega arith) ∙ at_last z zs n (omega arith) (omega arith) in
    let b : set_at (r ∷ z ∷ zs) (suc n) ≡ r.set = at_last r (z ∷ zs) (suc n) (omega arith) (omega arith) in
    ne_eqb (set_at (r ∷ z ∷ zs) n) (set_at (r ∷ z ∷ zs) (suc n)) (λ x. c.1 (sym a ∙ x ∙ b))

-- so the last run starts a stretch
last_starts : (r : Run) (rs : List Run) → Canon (r ∷ rs) → starts (alike_in (r ∷ rs)) (total rs) ≡ 1
unfolding starts
last_starts r rs c = go (total rs) refl
  where
    go : (n : ℕ) → total rs ≡ n → starts (alike_in (r ∷ rs)) n ≡ 1
    go zero e = refl
    go (suc p) e = simp (edge r rs p c e)

one_more : (r : Run) (rs : List Run) (l : ℕ) → r.len ≡ l → Canon (r ∷ rs) → stretch_count (alike_in rs) (total rs) ≡ length rs
    → stretch_count (alike_in (r ∷ rs)) (total rs + l) ≡ suc (length rs)
unfolding Canon
one_more r rs zero e c h = let p = c.0 in absurd (omega arith)
one_more r rs (suc j) e c h =
    omega (
      arith,
      level (alike_in (r ∷ rs)) (total rs) j (λ p a b. within_alike r rs p a (omega arith)),
      stretch_count_ext (alike_in (r ∷ rs)) (alike_in rs) (total rs)
          (λ p k. λ i. eqb (at_in r rs p (omega arith) i) (at_in r rs (suc p) k i)),
      last_starts r rs c,
    )

pub count_stretches : (rs : List Run) → Canon rs → length rs ≡ stretch_count (alike_in rs) (total rs)
unfolding Canon total sum_below
count_stretches [] c = refl
count_stretches (r ∷ rs) c = sym (one_more r rs r.len refl c (sym (count_stretches rs c.2)))
