-- The first runs of joined runs are the first stretches of their positions, so that what a budget reaches by runs is what it reaches by stretches.
use Prim.Native.Nat.{ℕ, zero, suc, ◌≤◌, ◌<◌, min}
use mathlib.Core.Path.{◌≡◌, refl, sym, ap, ap₂, ◌∙◌}
use mathlib.Core.Bool.{Bool}
use mathlib.Core.List.{List}
use native.Mathlib.Omega.{arith}
use native.Mathlib.Decide.{dec_lt, dec_le}
use lib.Dec.{eqb}
use lib.ListN.{get_or}
use Rattle.runs.specs.Runs.{runs, total, Canon, sums, BudgetReaches}
use Rattle.runs.specs.Positions.{sum_below, starts, stretch_count, part_of}
use Rattle.runs.specs.Stretches.{alike_in}
use Rattle.runs.proofs.Laws.{total_sums, length_runs}
use Rattle.runs.proofs.SumLaws.{sum_up}
use Rattle.runs.proofs.StretchLaws.{stretch_count_ext, count_stretches}
use Rattle.runs.proofs.ExtentLaws.{canon_front, at_front, edge_at}
use Rattle.runs.proofs.PartLaws.{part_is}

-- ---- a budget reaches just so many runs
module _ {lens : List ℕ} {n before budget : ℕ} where
  reaches_le : {k end k' end' : ℕ} → BudgetReaches lens n before budget k end → BudgetReaches lens n before budget k' end' → k < k' → ⊥
  reaches_le {k} {k' = zero} f g h = omega arith
  reaches_le {k} {k' = suc j} f g h =
      let a = sum_up (λ i. get_or lens i 0) k j (omega arith) in
      let b = g.begins j refl in
      omega (arith, f.full (omega arith), g.few)

  pub reaches_one : {k end k' end' : ℕ} → BudgetReaches lens n before budget k end → BudgetReaches lens n before budget k' end' → (k ≡ k') × (end ≡ end')
  reaches_one {k} {end} {k'} {end'} f g =
      let a : k < k' → ⊥ = reaches_le f g in
      let b : k' < k → ⊥ = reaches_le g f in
      let e : k ≡ k' = omega arith in
      (e, f.ends ∙ ap (λ (x : ℕ). min (sums lens x) before) e ∙ sym g.ends)

none_sum : (lens : List ℕ) → sums lens 0 ≡ 0
unfolding sum_below
none_sum lens = refl

-- ---- by stretches
module _ (lens sets : List ℕ) (n : ℕ) (canon : Canon (runs lens sets n)) where
  abbrev alike : ℕ → Bool
  alike p = alike_in (runs lens sets n) p

  -- the first k runs are k stretches
  count_at : (k : ℕ) → k ≤ n → stretch_count alike (sums lens k) ≡ k
  count_at k h =
      ap (stretch_count alike) (sym (total_sums lens sets k))
      ∙ stretch_count_ext alike (alike_in (runs lens sets k)) (total (runs lens sets k))
      (λ p l. ap₂ eqb (at_front lens sets k n p h (omega arith)) (at_front lens sets k n (suc p) h l))
      ∙ sym (count_stretches (runs lens sets k) (canon_front lens sets k n h canon))
      ∙ length_runs lens sets k

  -- and behind them begins another
  start_at : (k : ℕ) → k < n → starts alike (sums lens k) ≡ 1
  unfolding starts
  start_at k h = go (sums lens k) refl
    where
      go : (s : ℕ) → sums lens k ≡ s → starts alike s ≡ 1
      go zero e = refl
      go (suc q) e = simp (edge_at lens sets n canon k q h e)

  more_at : (k : ℕ) → k < n → stretch_count alike (suc (sums lens k)) ≡ suc k
  unfolding sum_below
  more_at k h = omega (arith, count_at k (omega arith), start_at k h)

  module _ (before k : ℕ) (few : k ≤ n) (fits : before ≤ total (runs lens sets n)) where
    -- what a budget of b stretches reaches below `before`: the ends of the first k runs, where these are b or reach so far
    pub part_runs : (b : ℕ) → k ≤ b → (sums lens k < before → k ≡ b) → part_of alike b before ≡ min (sums lens k) before
    part_runs b l full =
        part_is alike b before (min (sums lens k) before) (omega arith)
        (omega (arith, count_at k few, sum_up (starts alike) (min (sums lens k) before) (sums lens k) (omega arith)))
        (λ h.
        let e = full (omega arith) in
        let z : min (sums lens k) before ≡ sums lens k = omega arith in
        rw z (omega (arith, more_at k (below (omega (arith, total_sums lens sets n))))))
      where
        below : sums lens k < sums lens n → k < n
        below h = elim (dec_lt k n) [ yes g ↦ g | no g ↦ absurd (omega (arith, sum_up (λ j. get_or lens j 0) n k (omega arith))) ]

    -- and these are k stretches, where the last of them begins below it
    pub part_runs_count : ((j : ℕ) → k ≡ suc j → sums lens j < before) → stretch_count alike (min (sums lens k) before) ≡ k
    part_runs_count last =
        elim (dec_le (sums lens k) before) [
          | yes h ↦ let z : min (sums lens k) before ≡ sums lens k = omega arith in rw z (count_at k few)
          | no h ↦ let z : min (sums lens k) before ≡ before = omega arith in rw z (go k refl (omega arith))
        ]
      where
        go : (k' : ℕ) → k ≡ k' → before < sums lens k → stretch_count alike before ≡ k
        go zero e h = absurd (omega (arith, ap (sums lens) e, none_sum lens))
        go (suc j) e h =
            omega (
              arith,
              more_at j (omega arith),
              sum_up (starts alike) (suc (sums lens j)) before (last j e),
              sum_up (starts alike) before (sums lens k) (omega arith),
              count_at k few,
            )
