-- The unheld ranges of a tank below a position, gathered one by one into a plan.
use Prim.Native.Nat.{ℕ, zero, suc, ◌+◌, ◌-◌, ◌≤◌, ◌<◌, min}
use mathlib.Core.Path.{◌≡◌, refl, sym, ap, ap₂, ◌∙◌}
use mathlib.Core.Bool.{Bool, not, not-not}
use mathlib.Core.List.{List, [], ◌∷◌, ◌++◌}
use native.Mathlib.Omega.{arith}
use lib.ListN.{length, get_or, take, drop, set, replicate}
use borrow.Author.Tests.{lt-ltb, le-ltb}
use Rattle.laws.proofs.Lists.{filled_step}
use Rattle.styles.specs.Bits.{MaskOf}
use Rattle.styles.specs.Marks.{key_is}
use Rattle.runs.specs.Runs.{set_at}
use Rattle.runs.specs.Positions.{seek_from}
use Rattle.runs.specs.Scan.{meets}
use Rattle.runs.proofs.SeekLaws.{seek_to, seek_ext}
use Rattle.tank.specs.declared.Tank.{Tank}
use Rattle.tank.specs.State.{runs_of, table_of, view, Formed}
use Rattle.night.specs.declared.Range.{Range}
use Rattle.night.specs.Plans.{range, no_range, plan_of, held_at}
use Rattle.night.specs.Proposing.{unheld_at, seek, ranges_from, unheld_below}
use Rattle.night.proofs.FitLaws.{meets_held}
use Rattle.night.proofs.RangeLaws.{seek_cut}

-- ---- a list by what is left of it
module _ {A : Type 0} (d : A) where
  at_drop : (xs : List A) (k : ℕ) → get_or xs k d ≡ get_or (drop k xs) 0 d
  at_drop [] zero = refl
  at_drop [] (suc k) = refl
  at_drop (x ∷ xs) zero = refl
  at_drop (x ∷ xs) (suc k) = at_drop xs k

  next_drop : (xs : List A) (k : ℕ) → drop (suc k) xs ≡ drop 1 (drop k xs)
  next_drop [] zero = refl
  next_drop [] (suc k) = refl
  next_drop (x ∷ xs) zero = refl
  next_drop (x ∷ xs) (suc k) = next_drop xs k

  left_drop : (xs : List A) (k : ℕ) → length (drop k xs) ≡ length xs - k
  left_drop [] zero = refl
  left_drop [] (suc k) = omega arith
  left_drop (x ∷ xs) zero = omega arith
  left_drop (x ∷ xs) (suc k) = left_drop xs k ∙ omega arith

  all_taken : (xs : List A) (k : ℕ) → length xs ≤ k → take k xs ≡ xs
  all_taken [] zero h = refl
  all_taken [] (suc k) h = refl
  all_taken (x ∷ xs) zero h = absurd (omega arith)
  all_taken (x ∷ xs) (suc k) h = ap (λ (ys : List A). x ∷ ys) (all_taken xs k (omega arith))

-- k ranges are gathered, and the rest is sought from `at` on
pub record Gathered (t : Tank) (hold below : ℕ) (ranges : List Range) (k at : ℕ) : Type 0 where
  pub few : k ≤ 32
  pub within : at ≤ below
  pub count : k ≤ length (unheld_below hold (view t) below)
  pub is : ranges ≡ take k (unheld_below hold (view t) below) ++ replicate (32 - k) no_range
  pub rest : drop k (unheld_below hold (view t) below) ≡ ranges_from (32 - k) (unheld_at hold (view t)) below at

pub none_yet : (t : Tank) (hold below : ℕ) → Gathered t hold below (replicate 32 no_range) 0 0
none_yet t hold below = record { few = omega arith; within = omega arith; count = omega arith; is = refl; rest = refl }

-- what a walk over all runs finds, clipped at `below`
pub clipped : (test : ℕ → Bool) (at below all first : ℕ) → at ≤ below → below ≤ all → first ≡ seek_from test at (all - at)
    → min first below ≡ seek_from test at (below - at)
clipped test at below all first h l e =
    let k : all - at ≡ below - at + (all - below) = omega arith in
    let b : at + (below - at) ≡ below = omega arith in
    ap₂ min (e ∙ ap (seek_from test at) k) (sym b) ∙ seek_cut test at (below - at) (all - below)

module _ {t : Tank} (f : Formed t) (hold : ℕ) {mask : ℕ} (m : MaskOf (key_is hold) (table_of t) mask) (below : ℕ) where
  abbrev test : ℕ → Bool
  test p = unheld_at hold (view t) p

  abbrev all : List Range
  all = unheld_below hold (view t) below

  abbrev met : ℕ → Bool
  met p = meets mask (set_at (runs_of t) p)

  -- what the runs find is what the rule says
  pub without_is : (at a : ℕ) → a ≡ seek_from (λ p. not (met p)) at (below - at) → a ≡ seek test below at
  without_is at a e = e ∙ seek_ext (λ p. not (met p)) test at (below - at) (λ p c d. ap not (meets_held f hold m p))

  pub with_is : (at b : ℕ) → b ≡ seek_from met at (below - at) → b ≡ seek (λ p. not (test p)) below at
  with_is at b e =
      e ∙ seek_ext met (λ p. not (test p)) at (below - at) (λ p c d. meets_held f hold m p ∙ sym (not-not (held_at hold (view t) p)))

  module _ {ranges : List Range} {k at : ℕ} (inv : Gathered t hold below ranges k at) where
    -- nothing is left: the plan is whole
    whole : drop k all ≡ [] → record { count = k; ranges = ranges } ≡ plan_of all
    whole e =
        let c = inv.count in
        let l : length all ≡ k = omega (arith, left_drop no_range all k, ap length e) in
        let w : ranges ≡ all ++ replicate (32 - length all) no_range =
        inv.is ∙ ap₂ (λ (xs ys : List Range). xs ++ ys) (all_taken no_range all k (omega arith)) (ap (λ (n : ℕ). replicate (32 - n) no_range) (sym l)) in
        let l' = sym l in
        λ i. record { count = l' i; ranges = w i }

    pub gathered_all : 32 ≤ k → record { count = k; ranges = ranges } ≡ plan_of all
    unfolding ranges_from
    gathered_all h = let g = inv.few in let z : 32 - k ≡ 0 = omega arith in whole (inv.rest ∙ ap (λ (n : ℕ). ranges_from n test below at) z)

    module _ (more : k < 32) where
      next : drop k all ≡ ranges_from (suc (32 - suc k)) test below at
      next = let z : 32 - k ≡ suc (32 - suc k) = omega arith in inv.rest ∙ ap (λ (n : ℕ). ranges_from n test below at) z

      pub gathered_last : (a : ℕ) → a ≡ seek test below at → below ≤ a → record { count = k; ranges = ranges } ≡ plan_of all
      unfolding ranges_from
      gathered_last a e h = whole (next ∙ rw (le-ltb (seek test below at) below (omega arith)) refl)

      pub gathered_more : (a b : ℕ) → a ≡ seek test below at → b ≡ seek (λ p. not (test p)) below a → a < below
          → Gathered t hold below (set ranges k (range a b)) (k + 1) b
      unfolding ranges_from
      gathered_more a b e g h =
          let x : drop k all ≡ range a b ∷ ranges_from (32 - suc k) test below b =
          next ∙ rw (← e, lt-ltb a below h, ← g) refl in
          let c = inv.count in
          let l : k < length all = omega (arith, left_drop no_range all k, ap length x) in
          let here : get_or all k no_range ≡ range a b = at_drop no_range all k ∙ ap (λ (xs : List Range). get_or xs 0 no_range) x in
          let z : suc k ≡ k + 1 = omega arith in
          record {
            few = omega arith;
            within = omega (arith, g, seek_to (λ p. not (test p)) a (below - a));
            count = omega arith;
            is =
                ap₂ (λ (xs : List Range) (y : Range). set xs k y) inv.is (sym here) ∙ filled_step no_range no_range 32 all k l more
                ∙ ap (λ (j : ℕ). take j all ++ replicate (32 - j) no_range) z;
            rest =
                ap (λ (j : ℕ). drop j all) (sym z) ∙ next_drop no_range all k ∙ ap (drop 1) x
                ∙ ap (λ (j : ℕ). ranges_from (32 - j) test below b) z;
          }
