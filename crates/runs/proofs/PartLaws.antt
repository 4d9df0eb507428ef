-- The first b stretches of n positions: how many positions they have, and what is left behind them.
use Prim.Native.Nat.{ℕ, zero, suc, ◌+◌, ◌-◌, ◌≤◌, ◌<◌, min}
use mathlib.Core.Path.{◌≡◌, sym, ap, ◌∙◌}
use mathlib.Core.Bool.{Bool}
use native.Mathlib.Omega.{arith}
use native.Mathlib.Decide.{dec_le, dec_lt, ℕ_discrete}
use borrow.Author.Tests.{le-leb, lt-leb}
use Rattle.laws.proofs.Cases.{cond_by}
use Rattle.runs.specs.Positions.{sum_below, starts, stretch_count, part_of}
use Rattle.runs.proofs.SumLaws.{sum_up}

pub starts_most : (alike : ℕ → Bool) (p : ℕ) → starts alike p ≤ 1
unfolding starts
starts_most alike zero = omega arith
starts_most alike (suc p) = cond_by (λ (x : ℕ). x ≤ 1) (alike p) (omega arith) (omega arith)

module _ (alike : ℕ → Bool) (b : ℕ) where
  part_all : (p : ℕ) → stretch_count alike (suc p) ≤ b → part_of alike b (suc p) ≡ suc p
  unfolding part_of
  part_all p h = simp (le-leb (stretch_count alike (suc p)) b h)

  part_less : (p : ℕ) → b < stretch_count alike (suc p) → part_of alike b (suc p) ≡ part_of alike b p
  unfolding part_of
  part_less p h = simp (lt-leb (stretch_count alike (suc p)) b h)

  pub part_le : (n : ℕ) → part_of alike b n ≤ n
  unfolding part_of
  part_le zero = omega arith
  part_le (suc p) =
      elim (dec_le (stretch_count alike (suc p)) b) [
        | yes h ↦ omega (arith, part_all p h)
        | no h ↦ omega (arith, part_less p (omega arith), part_le p)
      ]

  -- they are no more than b
  pub part_few : (n : ℕ) → stretch_count alike (part_of alike b n) ≤ b
  unfolding part_of sum_below
  part_few zero = omega arith
  part_few (suc p) =
      elim (dec_le (stretch_count alike (suc p)) b) [
        | yes h ↦ rw (part_all p h) h
        | no h ↦ rw (part_less p (omega arith)) (part_few p)
      ]

  -- and one position more would be in another
  pub part_stop : (n : ℕ) → part_of alike b n < n → b < stretch_count alike (suc (part_of alike b n))
  unfolding part_of
  part_stop zero h = absurd (omega arith)
  part_stop (suc p) h =
      elim (dec_le (stretch_count alike (suc p)) b) [
        | yes g ↦ absurd (omega (arith, part_all p g))
        | no g ↦
            let e = part_less p (omega arith) in
            rw e
            (elim (dec_lt (part_of alike b p) p) [
              | yes k ↦ part_stop p k
              | no k ↦ let z : part_of alike b p ≡ p = omega (arith, part_le p) in rw z (omega arith)
            ])
      ]

  -- there is no other such number of positions
  pub part_is : (n q : ℕ) → q ≤ n → stretch_count alike q ≤ b → (q < n → b < stretch_count alike (suc q)) → part_of alike b n ≡ q
  part_is n q l f s =
      let a = part_le n in
      let c = part_few n in
      elim (dec_lt (part_of alike b n) q) [
        | yes h ↦ absurd (omega (arith, part_stop n (omega arith), sum_up (starts alike) (suc (part_of alike b n)) q h))
        | no h ↦
            elim (dec_lt q (part_of alike b n)) [
              | yes k ↦ absurd (omega (arith, s (omega arith), sum_up (starts alike) (suc q) (part_of alike b n) k))
              | no k ↦ omega arith
            ]
      ]

  -- all positions, where there are no more stretches than b; and only then
  pub part_whole : (n : ℕ) → stretch_count alike n ≤ b → part_of alike b n ≡ n
  part_whole n h = part_is n n (omega arith) h (λ l. absurd (omega arith))

  pub part_short : (n : ℕ) → b < stretch_count alike n → part_of alike b n < n
  part_short n h =
      let a = part_le n in
      elim (ℕ_discrete (part_of alike b n) n) [
        | yes e ↦ absurd (omega (arith, part_few n, ap (stretch_count alike) e))
        | no e ↦ omega arith
      ]

  -- behind them begins a stretch, and they are just b
  pub part_edge : (n : ℕ) → b < stretch_count alike n → (stretch_count alike (part_of alike b n) ≡ b) × (starts alike (part_of alike b n) ≡ 1)
  unfolding sum_below
  part_edge n h =
      let s = part_stop n (part_short n h) in
      let f = part_few n in
      let o = starts_most alike (part_of alike b n) in
      (omega arith, omega arith)

  pub part_count : (n : ℕ) → stretch_count alike (part_of alike b n) ≡ min b (stretch_count alike n)
  part_count n =
      elim (dec_le (stretch_count alike n) b) [
        | yes h ↦ omega (arith, ap (stretch_count alike) (part_whole n h))
        | no h ↦ let e = part_edge n (omega arith) in omega (arith, e.0)
      ]

-- ---- positions behind d, where a stretch begins
module _ (alike : ℕ → Bool) (d : ℕ) (begun : starts alike d ≡ 1) where
  abbrev behind : ℕ → Bool
  behind p = alike (p + d)

  starts_behind : (p : ℕ) → starts behind p ≡ starts alike (d + p)
  unfolding starts
  starts_behind zero = let e : d + 0 ≡ d = omega arith in rw e (sym begun)
  starts_behind (suc p) =
      let e : d + suc p ≡ suc (d + p) = omega arith in
      let g : p + d ≡ d + p = omega arith in
      rw (e, g)

  pub count_behind : (m : ℕ) → stretch_count alike (d + m) ≡ stretch_count alike d + stretch_count behind m
  unfolding sum_below
  count_behind zero = let e : d + 0 ≡ d = omega arith in rw e (omega arith)
  count_behind (suc m) =
      let e : d + suc m ≡ suc (d + m) = omega arith in
      rw e (omega (arith, count_behind m, starts_behind m))

-- ---- b stretches and then c more are b + c stretches
pub part_twice : (alike : ℕ → Bool) (b c n : ℕ)
    → part_of alike (b + c) n ≡ part_of alike b n + part_of (λ p. alike (p + part_of alike b n)) c (n - part_of alike b n)
part_twice alike b c n =
    let d = part_of alike b n in
    let rest : ℕ → Bool = λ p. alike (p + d) in
    let e = part_of rest c (n - d) in
    let l = part_le alike b n in
    let m = part_le rest c (n - d) in
    elim (dec_le (stretch_count alike n) b) [
      | yes h ↦
          let w = part_whole alike b n h in
          part_whole alike (b + c) n (omega arith) ∙ omega arith
      | no h ↦
          let g = part_edge alike b n (omega arith) in
          let k = count_behind alike d g.1 in
          part_is alike (b + c) n (d + e) (omega arith) (omega (arith, k e, part_few rest c (n - d), g.0))
          (λ s.
          let z : d + suc e ≡ suc (d + e) = omega arith in
          omega (arith, ap (stretch_count alike) z, k (suc e), part_stop rest c (n - d) (omega arith), g.0))
    ]
