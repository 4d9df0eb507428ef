-- A key moved to the front, place by place; the letter of a key, and of all.
use mathlib.Core.Path.{◌≡◌, refl, sym, ap, ap₂, ◌∙◌}
use mathlib.Core.Bool.{Bool, true, false, cond, ◌&&◌, ◌||◌, not, false≢true}
use mathlib.Core.List.{List, [], ◌∷◌, ◌++◌, append_assoc, append-nil, map}
use Prim.Native.Nat.{ℕ, zero, suc, ◌+◌, ◌%◌, ◌^◌, ◌≤◌, ◌<◌}
use native.Mathlib.Decide.{ℕ_discrete}
use native.Mathlib.Nat.{mod-eq_of_lt}
use native.Mathlib.Numerals.{add-one}
use native.Mathlib.Omega.{arith}
use lib.Dec.{eqb}
use Rattle.std.specs.List.{list_any}
use lib.ListN.{length, get_or, take, drop, set, length-set, drop_of_length-le, replicate}
use lib.Seq.{drop-cons, drop-set-lt, take_all, take-suc-set, set_split}
use borrow.Author.Tests.{le-leb, lt-leb, lt-ltb, le-ltb, eq-eqb, ne_eqb}
use Rattle.text.specs.Bytes.{holds}
use Rattle.text.specs.Number.{put}
use Rattle.key_names.specs.Names.{Named, is_named}
use Rattle.key_legend.specs.Letters.{without, held_first, is_letter, initial_of, letter_of, letters_from, letters_of, strip_key, strip_keys}

-- ---- a number looked for
pub any_holds : (b : ℕ) (xs : List ℕ) → list_any (λ (x : ℕ). eqb x b) xs ≡ holds b xs
unfolding holds
any_holds b [] = refl
any_holds b (x ∷ xs) = ap (λ (r : Bool). eqb x b || r) (any_holds b xs)

-- ---- a key moved to the front: each key up to it moves one place on
unfoldable pub shifted : ℕ → ℕ → List ℕ → List ℕ
shifted carried key [] = []
shifted carried key (x ∷ xs) = cond (eqb x key) (carried ∷ xs) (carried ∷ shifted x key xs)

shifted_is : (carried key : ℕ) (xs : List ℕ) → holds key xs ≡ true → shifted carried key xs ≡ carried ∷ without key xs
unfolding holds shifted without
shifted_is carried key [] e = absurd (false≢true e)
shifted_is carried key (x ∷ xs) e =
    elim (ℕ_discrete x key) [
      | yes h ↦ rw (eq-eqb x key h)
      | no h ↦ rw (ne_eqb x key h) (ap (λ (l : List ℕ). carried ∷ l) (shifted_is x key xs (rw (ne_eqb x key h) at e)))
    ]

module _ (start keys : List ℕ) (key carried i : ℕ) (inv : take i keys ++ shifted carried key (drop i keys) ≡ shifted key key start) (h : i < length keys) where
  here : shifted carried key (drop i keys) ≡ cond (eqb (get_or keys i 0) key) (carried ∷ drop (suc i) keys) (carried ∷ shifted (get_or keys i 0) key (drop (suc i) keys))
  unfolding shifted
  here = ap (shifted carried key) (drop-cons keys i 0 h)

  pub moved_here : get_or keys i 0 ≡ key → holds key start ≡ true → set keys i carried ≡ key ∷ without key start
  moved_here e f =
      set_split keys i carried h
      ∙ ap (λ (l : List ℕ). take i keys ++ l) (sym (here ∙ ap (λ (b : Bool). cond b (carried ∷ drop (suc i) keys) (carried ∷ shifted (get_or keys i 0) key (drop (suc i) keys))) (eq-eqb (get_or keys i 0) key e)))
      ∙ inv
      ∙ shifted_is key key start f

  pub moved_on : (get_or keys i 0 ≡ key → ⊥) → take (i + 1) (set keys i carried) ++ shifted (get_or keys i 0) key (drop (i + 1) (set keys i carried)) ≡ shifted key key start
  moved_on e =
      rw (add-one i)
      (ap₂ (λ (a b : List ℕ). a ++ shifted (get_or keys i 0) key b) (take-suc-set keys i carried h) (drop-set-lt (suc i) keys i carried (omega arith))
      ∙ append_assoc (take i keys) (carried ∷ []) (shifted (get_or keys i 0) key (drop (suc i) keys))
      ∙ ap (λ (l : List ℕ). take i keys ++ l) (sym (here ∙ ap (λ (b : Bool). cond b (carried ∷ drop (suc i) keys) (carried ∷ shifted (get_or keys i 0) key (drop (suc i) keys))) (ne_eqb (get_or keys i 0) key e)))
      ∙ inv)

-- it is among them, so the walk does not come to their end
pub moved_all : (start keys : List ℕ) (key carried i : ℕ) → take i keys ++ shifted carried key (drop i keys) ≡ shifted key key start → length keys ≤ i → holds key start ≡ true → keys ≡ key ∷ without key start
unfolding shifted
moved_all start keys key carried i inv h f =
    sym (take_all i keys h)
    ∙ sym (append-nil (take i keys))
    ∙ ap (λ (l : List ℕ). take i keys ++ shifted carried key l) (sym (drop_of_length-le keys h))
    ∙ inv
    ∙ shifted_is key key start f

-- `hold` in front
module _ (hold : ℕ) (keys : List ℕ) where
  pub first_over_lem : 65535 < hold → keys ≡ held_first hold keys
  unfolding held_first
  first_over_lem h = rw (lt-leb hold 65535 h)

  pub first_moved : hold ≤ 65535 → holds hold keys ≡ true → hold ∷ without hold keys ≡ held_first hold keys
  unfolding held_first
  first_moved h e = rw (le-leb hold 65535 h) (rw e)

  pub first_none : hold ≤ 65535 → holds hold keys ≡ false → keys ≡ held_first hold keys
  unfolding held_first
  first_none h e = rw (le-leb hold 65535 h) (rw e)

-- ---- a letter
module _ (c : ℕ) (before : List ℕ) (i : ℕ) where
  pub letter_free : is_letter c ≡ true → holds c before ≡ false → c ≡ cond (is_letter c && not (holds c before)) c (49 + i)
  letter_free e f = rw e (rw f)

  pub letter_not : is_letter c ≡ false → 49 + i ≡ cond (is_letter c && not (holds c before)) c (49 + i)
  letter_not e = rw e

  pub letter_taken : is_letter c ≡ true → holds c before ≡ true → 49 + i ≡ cond (is_letter c && not (holds c before)) c (49 + i)
  letter_taken e f = rw e (rw f)

-- ---- letter after letter
-- the first i letters stand, and the others are to come
pub record Lettered (names : List Named) (keys letters : List ℕ) (i : ℕ) : Type 0 where
  pub long : length letters ≡ length keys
  pub within : i ≤ length keys
  pub is : take i letters ++ letters_from names (take i letters) i (drop i keys) ≡ letters_of names keys

module _ (names : List Named) (keys : List ℕ) where
  pub letters_none : (letters : List ℕ) → length letters ≡ length keys → Lettered names keys letters 0
  unfolding letters_of
  letters_none letters l = record { long = l; within = omega arith; is = refl }

  pub letters_on : (letters : List ℕ) (i c : ℕ) → Lettered names keys letters i → i < length keys → c ≡ letter_of names (take i letters) i (get_or keys i 0) → Lettered names keys (set letters i c) (i + 1)
  unfolding letters_from
  letters_on letters i c u h e =
      let b : List ℕ = take i letters in
      let front : take (suc i) (set letters i c) ≡ b ++ (c ∷ []) = take-suc-set letters i c (omega (arith, u.long)) in
      record {
        long = length-set letters i c ∙ u.long;
        within = omega arith;
        is = rw (add-one i)
            (ap (λ (l : List ℕ). l ++ letters_from names l (suc i) (drop (suc i) keys)) front
            ∙ append_assoc b (c ∷ []) (letters_from names (b ++ (c ∷ [])) (suc i) (drop (suc i) keys))
            ∙ ap (λ (x : ℕ). b ++ x ∷ letters_from names (b ++ (x ∷ [])) (suc i) (drop (suc i) keys)) e
            ∙ ap (λ (l : List ℕ). b ++ letters_from names b i l) (sym (drop-cons keys i 0 h))
            ∙ u.is);
      }

  pub letters_all : (letters : List ℕ) (i : ℕ) → Lettered names keys letters i → length keys ≤ i → letters ≡ letters_of names keys
  unfolding letters_from
  letters_all letters i u h =
      sym (take_all i letters (omega (arith, u.long)))
      ∙ sym (append-nil (take i letters))
      ∙ ap (λ (l : List ℕ). take i letters ++ letters_from names (take i letters) i l) (sym (drop_of_length-le keys h))
      ∙ u.is
