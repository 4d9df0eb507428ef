-- How far a loop has come: the building, the sum, and the house that the edits leave.
use Rattle.std.specs.Prelude.{Result, Ok, Err}
use Rattle.std.proofs.Common.{◌≡◌, ℕ, ◌+◌, ◌%◌, ◌^◌, ◌<◌, ◌≤◌, sym, refl, ap, ◌∙◌, add-one, arith}
use native.Mathlib.Nat.{mod-add-mod}
use Rattle.runs.specs.Positions.{sum_below}
use Rattle.runs.proofs.SumLaws.{sum_more}
use Rattle.tank.specs.Rules.{Edit}
use Rattle.refusal.specs.declared.Refusal.{Refusal}
use Rattle.refusal.specs.Answers.{number_in}
use Rattle.styles.specs.declared.Styles.{Styles}
use Rattle.styles.specs.Answers.{styles_of}
use Rattle.tanks.specs.declared.Done.{Done}
use Rattle.tanks.specs.declared.Tanks.{Tanks}
use Rattle.tanks.specs.House.{House, after_at, inserted_set_at}
use Rattle.tanks.specs.Promises.{CalledAt, DoneAt, coming_to, set_beside}
use Rattle.tanks.specs.Pool.{meaning, Sound}
use Rattle.timing.specs.Promises.{MeansHouse}
use Rattle.timing.specs.Work as rules

-- ---- n of m steps are made
pub record Stepped (f : ℕ → House → House) (h : House) (n m : ℕ) (u : Tanks) : Type 0 where
  pub most : n ≤ m
  pub means : MeansHouse (rules.steps f n h) u

pub stepped_none : (f : ℕ → House → House) (m : ℕ) (u : Tanks) → Sound u → Stepped f (meaning u) 0 m u
unfolding rules.steps
stepped_none f m u sound = record { most = omega arith; means = record { is = refl; sound = sound } }

pub stepped_next : {f : ℕ → House → House} {h : House} {n m : ℕ} {u v : Tanks} → Stepped f h n m u → n < m → MeansHouse (f n (meaning u)) v → Stepped f h (n + 1) m v
unfolding rules.steps
stepped_next {f} {h} {n} s l v = record { most = omega arith; means = record { is = rw add-one (rw (v.is, s.means.is)); sound = v.sound } }

pub stepped_all : {f : ℕ → House → House} {h : House} {n m : ℕ} {u : Tanks} → Stepped f h n m u → m ≤ n → MeansHouse (rules.steps f m h) u
stepped_all {f} {h} {n} {m} s l = let e : n ≡ m = omega (arith, s.most, l) in rw (← e) s.means

-- ---- n of m turns are added up
pub record Summed (f : ℕ → ℕ) (n m sum : ℕ) : Type 0 where
  pub most : n ≤ m
  pub is : sum ≡ rules.summed f n

pub summed_none : (f : ℕ → ℕ) (m : ℕ) → Summed f 0 m 0
unfolding sum_below
summed_none f m = record { most = omega arith; is = refl }

pub summed_next : {f : ℕ → ℕ} {n m s x r : ℕ} → Summed f n m s → n < m → x ≡ f n → r ≡ (s + x) % 2 ^ 64 → Summed f (n + 1) m r
summed_next {f} {n} s l e w =
    record { most = omega arith; is = rw (w, s.is, e) (mod-add-mod (sum_below f n) (2 ^ 64) (f n) ∙ ap (λ (k : ℕ). k % 2 ^ 64) (sym (sum_more f n))) }

pub summed_all : {f : ℕ → ℕ} {n m s : ℕ} → Summed f n m s → m ≤ n → s ≡ rules.summed f m
summed_all {f} {n} {m} s l = let e : n ≡ m = omega (arith, s.most, l) in rw (← e) s.is

-- ---- The house that the last turn leaves
pub left_none : (edit : ℕ → Edit) (t : ℕ) (h : House) → h ≡ rules.left edit t 0 h
unfolding rules.left
left_none edit t h = refl

pub left_next : (edit : ℕ → Edit) (t n : ℕ) (h : House) → after_at h t (edit n) ≡ rules.left edit t (n + 1) h
unfolding rules.left
left_next edit t n h = rw add-one refl

-- an edit's answer, by its number and the marks that it holds
pub answered : {s : Tanks} {t : ℕ} {e : Edit} (next : Tanks) (r : Result Done Refusal) → DoneAt s t e (coming_to next r)
    → CalledAt s t e (number_in r) next × (rules.marks_given r ≡ (styles_of (set_beside (inserted_set_at (meaning s) t) e)).count)
answered next (Ok d) p = (p.called, ap (λ (m : Styles). m.count) p.styles_are)
answered next (Err refusal) p = (p.called, ap (λ (m : Styles). m.count) p.styles_are)
