-- Where a byte stands first: the bytes in front of it, whether it is there, and a search from place to place.
use mathlib.Core.Path.{◌≡◌, refl, sym, ap, ◌∙◌}
use Rattle.std.specs.Prelude.{Some, None}
use Rattle.std.specs.Option.{unwrap_or}
use Rattle.std.specs.List.{position_or_len}
use Rattle.std.proofs.lemmas.List.Recursion.{is_position_or_len}
use mathlib.Core.Bool.{true, cond}
use mathlib.Core.List.{List, [], ◌∷◌}
use Prim.Native.Nat.{ℕ, suc, ◌+◌, ◌-◌, ◌≤◌}
use native.Mathlib.Decide.{ℕ_discrete, dec_lt}
use native.Mathlib.Omega.{arith}
use lib.Dec.{eqb, ltb, leb-suc-suc}
use lib.ListN.{length, take, drop, length-take, length-drop, drop_of_length-le}
use borrow.Author.Tests.{eq-eqb, ne_eqb, lt-ltb, le-ltb}
use Rattle.text.specs.Bytes.{up_to, holds}

module _ (b x : ℕ) (xs : List ℕ) where
  pub front_here : x ≡ b → up_to b (x ∷ xs) ≡ []
  unfolding up_to
  front_here e = rw (eq-eqb x b e)

  pub front_past : (x ≡ b → ⊥) → up_to b (x ∷ xs) ≡ x ∷ up_to b xs
  unfolding up_to
  front_past e = rw (ne_eqb x b e)

  pub held_here : x ≡ b → holds b (x ∷ xs) ≡ true
  unfolding holds
  held_here e = rw (eq-eqb x b e)

  pub held_past : (x ≡ b → ⊥) → holds b (x ∷ xs) ≡ holds b xs
  unfolding holds
  held_past e = rw (ne_eqb x b e)

pub front_none : (b : ℕ) → up_to b [] ≡ []
unfolding up_to
front_none b = refl

-- what stands in front of it is the front
pub front_take : (b : ℕ) (l : List ℕ) → take (length (up_to b l)) l ≡ up_to b l
unfolding up_to
front_take b [] = refl
front_take b (x ∷ xs) =
    elim (ℕ_discrete x b) [
      | yes e ↦ rw (front_here b x xs e)
      | no e ↦ rw (front_past b x xs e) (ap (λ (t : List ℕ). x ∷ t) (front_take b xs))
    ]

pub front_length : (b : ℕ) (l : List ℕ) → length (up_to b l) ≤ length l
front_length b l = omega (arith, ap length (front_take b l), length-take (length (up_to b l)) l)

-- a part of the bytes that ends where it stands
module _ (b : ℕ) (l : List ℕ) (from to : ℕ) (e : to ≡ from + length (up_to b (drop from l))) where
  pub front_part : take (to - from) (drop from l) ≡ up_to b (drop from l)
  front_part =
      let d : to - from ≡ length (up_to b (drop from l)) = omega arith in ap (λ (k : ℕ). take k (drop from l)) d ∙ front_take b (drop from l)

  pub front_inside : from ≤ length l → to ≤ length l
  front_inside h = omega (arith, front_length b (drop from l), length-drop from l)

-- it is there where not all bytes stand in front of it
pub held_by_length : (b : ℕ) (l : List ℕ) → holds b l ≡ ltb (length (up_to b l)) (length l)
unfolding holds up_to
held_by_length b [] = refl
held_by_length b (x ∷ xs) =
    elim (ℕ_discrete x b) [
      | yes e ↦ held_here b x xs e ∙ sym (lt-ltb (length (up_to b (x ∷ xs))) (suc (length xs)) (omega (arith, ap length (front_here b x xs e))))
      | no e ↦
          held_past b x xs e ∙ held_by_length b xs ∙ sym (leb-suc-suc (suc (length (up_to b xs))) (length xs))
          ∙ sym (ap (λ (t : List ℕ). ltb (length t) (suc (length xs))) (front_past b x xs e))
    ]

-- ---- the search
pub found_none : (b : ℕ) (l : List ℕ) (i : ℕ) → length l ≤ i → length (up_to b (drop i l)) ≡ 0
found_none b l i h = ap (λ (t : List ℕ). length (up_to b t)) (drop_of_length-le l h) ∙ ap length (front_none b)

-- the bytes in front of a byte are as many as its place, or all of them
front_step : (b x : ℕ) (xs : List ℕ) → length (up_to b (x ∷ xs)) ≡ cond (eqb x b) 0 (1 + length (up_to b xs))
front_step b x xs =
    elim (ℕ_discrete x b) [
      | yes e ↦ rw (eq-eqb x b e) (ap length (front_here b x xs e))
      | no e ↦ rw (ne_eqb x b e) (omega (arith, ap length (front_past b x xs e)))
    ]

pub front_position : (b : ℕ) (l : List ℕ) → length (up_to b l) ≡ position_or_len (λ x. eqb x b) l
front_position b = is_position_or_len (λ l. length (up_to b l)) (λ x. eqb x b) (ap length (front_none b)) (front_step b)

-- what `position` answers, or all of them
pub front_found : (b : ℕ) (l : List ℕ) → unwrap_or (cond (ltb (position_or_len (λ x. eqb x b) l) (length l)) (Some (position_or_len (λ x. eqb x b) l)) None) (length l) ≡ length (up_to b l)
front_found b l =
    rw (← front_position b l)
    (elim (dec_lt (length (up_to b l)) (length l)) [
      | yes h ↦ rw (lt-ltb (length (up_to b l)) (length l) h) refl
      | no h ↦ rw (le-ltb (length (up_to b l)) (length l) (omega arith)) (omega (arith, front_length b l))
    ])
