-- Ageing call by call is one deletion: after k calls with budget b the tank is what one call with budget k * b leaves.
use Prim.Native.Nat.{ℕ, zero, suc, ◌+◌, ◌-◌, ◌*◌, ◌≤◌, ◌<◌, min}
use mathlib.Core.Path.{◌≡◌, refl, sym, ap, ◌∙◌, fun_ext}
use mathlib.Core.Bool.{Bool, true}
use native.Mathlib.Omega.{arith}
use native.Mathlib.Decide.{dec_le}
use borrow.Author.Tests.{le-ltb}
use Rattle.styles.specs.Marks.{same_marks}
use Rattle.runs.specs.Positions.{sum_below, starts, stretch_count, part_of}
use Rattle.runs.proofs.PartLaws.{part_le, part_count, part_is, part_whole, part_short, part_edge, part_twice, count_behind}
use Rattle.tank.specs.Rules.{View, alike, after_delete}
use Rattle.night.specs.Ageing.{Ageing, ageing, overlapping, aged_part, aged_count, aged_left, aged_once, aged_times}
use Rattle.tank.proofs.ViewLaws.{view_ext}

-- the first d positions gone from a touched tank
abbrev behind : ℕ → View → View
behind d v = record { length = v.length - d; touched = true; at = λ p. v.at (p + d) }

from_0 : (d : ℕ) (v : View) → v.touched ≡ true → after_delete 0 d v ≡ behind d v
unfolding after_delete
from_0 d v t =
    simp t
    (view_ext _ _ (omega arith) refl (λ p. let e : p + (d - 0) ≡ p + d = omega arith in rw (le-ltb p 0 (omega arith)) (ap v.at e)))

-- in a touched tank a call drops as many stretches as its budget, or all that there are
pub aged_count_lem : (before budget : ℕ) (v : View) → v.touched ≡ true → aged_count before budget v ≡ min budget (overlapping before v)
unfolding aged_part
aged_count_lem before budget v t = simp t (part_count (alike v.at) budget before)

module _ (budget before : ℕ) (v : View) (t : v.touched ≡ true) where
  -- how far a budget of b gets
  abbrev reach : ℕ → ℕ
  reach b = part_of (alike v.at) b before

  abbrev start : Ageing
  start = ageing v before 0

  -- what calls with b in all come to
  abbrev due : ℕ → Ageing
  due b = ageing (behind (reach b) v) (before - reach b) (min b (overlapping before v))

  reach_0 : reach 0 ≡ 0
  unfolding sum_below starts
  reach_0 = part_is (alike v.at) 0 before 0 (omega arith) (omega arith) (λ h. omega arith)

  begun : start ≡ due 0
  begun =
      let z = reach_0 in
      let a : v ≡ behind (reach 0) v = view_ext _ _ (omega arith) t (λ p. let e : p ≡ p + reach 0 = omega arith in ap v.at e) in
      let b : before ≡ before - reach 0 = omega arith in
      let c : 0 ≡ min 0 (overlapping before v) = omega arith in
      λ i. record { tank = a i; before = b i; dropped = c i }

  -- neighbours behind the first d positions are the same as they were
  moved : (d : ℕ) → alike (behind d v).at ≡ (λ p. alike v.at (p + d))
  moved d = fun_ext (λ p. let e : suc p + d ≡ suc (p + d) = omega arith in ap (λ (q : ℕ). same_marks (v.at (p + d)) (v.at q)) e)

  -- how many stretches there are behind what b reaches
  left_over : (b : ℕ) → stretch_count (λ p. alike v.at (p + reach b)) (before - reach b) ≡ overlapping before v - min b (overlapping before v)
  unfolding sum_below
  left_over b =
      elim (dec_le (overlapping before v) b) [
        | yes h ↦
            let w = part_whole (alike v.at) b before h in
            let z : before - reach b ≡ 0 = omega arith in
            rw z (omega arith)
        | no h ↦
            let g = part_edge (alike v.at) b before (omega arith) in
            let l = part_le (alike v.at) b before in
            let e : reach b + (before - reach b) ≡ before = omega arith in
            omega (arith, count_behind (alike v.at) (reach b) g.1 (before - reach b), g.0, ap (stretch_count (alike v.at)) e)
      ]

  step : (b : ℕ) → aged_once budget (due b) ≡ due (b + budget)
  unfolding aged_part aged_left
  step b =
      let d = reach b in
      let e = part_of (alike (behind d v).at) budget (before - d) in
      let f = part_of (λ p. alike v.at (p + d)) budget (before - d) in
      let m : e ≡ f = ap (λ (g : ℕ → Bool). part_of g budget (before - d)) (moved d) in
      let w : reach (b + budget) ≡ d + f = part_twice (alike v.at) b budget before in
      let a : after_delete 0 e (behind d v) ≡ behind (reach (b + budget)) v =
      from_0 e (behind d v) refl
      ∙ view_ext _ _ (omega arith) refl (λ p. let q : p + e + d ≡ p + reach (b + budget) = omega arith in ap v.at q) in
      let l : before - d - e ≡ before - reach (b + budget) = omega arith in
      let n : stretch_count (alike (behind d v).at) (before - d) ≡ overlapping before v - min b (overlapping before v) =
      ap (λ (g : ℕ → Bool). stretch_count g (before - d)) (moved d) ∙ left_over b in
      let c : min b (overlapping before v) + stretch_count (alike (behind d v).at) e ≡ min (b + budget) (overlapping before v) =
      omega (arith, part_count (alike (behind d v).at) budget (before - d)) in
      λ i. record { tank = a i; before = l i; dropped = c i }

  calls : (k : ℕ) → aged_times budget k start ≡ due (k * budget)
  unfolding aged_times
  calls zero = let e : 0 ≡ 0 * budget = omega arith in begun ∙ ap due e
  calls (suc k) = let e : k * budget + budget ≡ suc k * budget = omega arith in ap (aged_once budget) (calls k) ∙ step (k * budget) ∙ ap due e

  -- k calls come to what k budgets reach
  pub aged_times_lem : (k : ℕ)
      → aged_times budget k start ≡ ageing (after_delete 0 (reach (k * budget)) v) (before - reach (k * budget)) (min (k * budget) (overlapping before v))
  aged_times_lem k =
      let e = sym (from_0 (reach (k * budget)) v t) in
      calls k ∙ (λ i. record { tank = e i; before = before - reach (k * budget); dropped = min (k * budget) (overlapping before v) })

  -- the work is over after k calls where k budgets are enough for the stretches that overlap, with all of them reported, and the tank is
  -- what one deletion leaves
  pub aged_over : (k : ℕ) → overlapping before v ≤ k * budget
      → aged_times budget k start ≡ ageing (after_delete 0 before v) 0 (overlapping before v)
  aged_over k h =
      let w : reach (k * budget) ≡ before = part_whole (alike v.at) (k * budget) before h in
      let a : before - reach (k * budget) ≡ 0 = omega arith in
      let b : min (k * budget) (overlapping before v) ≡ overlapping before v = omega arith in
      aged_times_lem k ∙ (λ i. record { tank = after_delete 0 (w i) v; before = a i; dropped = b i })

  -- and not before
  pub aged_not_yet : (k : ℕ) → k * budget < overlapping before v → 0 < (aged_times budget k start).before
  aged_not_yet k h =
      let s = part_short (alike v.at) (k * budget) before h in
      omega (arith, ap (λ (s : Ageing). s.before) (aged_times_lem k))
