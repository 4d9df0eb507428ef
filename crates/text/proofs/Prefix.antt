-- A text that starts with another, or is another: what the answer says. What is left of a text from a place on.
use Rattle.std.specs.Bool.{Decides}
use Rattle.std.specs.Cmp.Lexicographic.{pointwise}
use mathlib.Core.Path.{◌≡◌, refl, sym, ap, ap₂, ◌∙◌, subst}
use mathlib.Core.Bool.{Bool, true, false, false≢true}
use mathlib.Core.List.{List, [], ◌∷◌, ◌++◌}
use Prim.Native.Nat.{ℕ, ◌-◌, ◌≤◌}
use lib.Dec.{eqb}
use native.Mathlib.Decide.{ℕ_discrete}
use native.Mathlib.Omega.{arith}
use lib.ListN.{length, take, drop, length-take, length-drop, take-append-drop}
use lib.Seq.{take_all, take-append_seam}
use borrow.Author.Tests.{eq-eqb, ne_eqb}
use Rattle.text.specs.Bytes.{starts_of, same_of}

-- what `starts_with` says of slices
pub starts_pointwise : (s p : List ℕ) → pointwise eqb p (take (length p) s) ≡ starts_of s p
unfolding starts_of
starts_pointwise s [] = refl
starts_pointwise [] (c ∷ p) = refl
starts_pointwise (x ∷ s) (c ∷ p) =
    elim (ℕ_discrete x c) [
      | yes q ↦ simp (eq-eqb x c q, eq-eqb c x (sym q)) (starts_pointwise s p)
      | no q ↦ simp (ne_eqb x c q, ne_eqb c x (λ e. q (sym e)))
    ]

-- the answer is that the front of s is p
pub starts_front : (s p : List ℕ) → starts_of s p ≡ true → take (length p) s ≡ p
unfolding starts_of
starts_front s [] e = refl
starts_front [] (c ∷ p) e = let z : ◌≡◌ {A = ℕ} 0 1 = cc in absurd (omega arith)
starts_front (x ∷ s) (c ∷ p) e =
    elim (ℕ_discrete x c) [
      | yes q ↦ ap₂ (λ (a : ℕ) (l : List ℕ). a ∷ l) q (starts_front s p (rw (eq-eqb x c q) at e))
      | no q ↦ absurd (false≢true (rw (ne_eqb x c q) at e))
    ]

pub front_starts : (s p : List ℕ) → take (length p) s ≡ p → starts_of s p ≡ true
unfolding starts_of
front_starts s [] e = refl
front_starts [] (c ∷ p) e = let z : ◌≡◌ {A = ℕ} 0 1 = cc in absurd (omega arith)
front_starts (x ∷ s) (c ∷ p) e =
    let h : x ≡ c = cc in
    let t : take (length p) s ≡ p = cc in
    simp (eq-eqb x c h) (front_starts s p t)

-- a text is as long as one that it starts with, or longer
pub starts_length : (s p : List ℕ) → starts_of s p ≡ true → length p ≤ length s
starts_length s p e = omega (arith, ap length (starts_front s p e), length-take (length p) s)

-- a text that starts with another is that one and what is behind it
pub starts_split : (s p : List ℕ) → starts_of s p ≡ true → s ≡ p ++ drop (length p) s
starts_split s p e = sym (take-append-drop (length p) s) ∙ ap (λ (l : List ℕ). l ++ drop (length p) s) (starts_front s p e)

pub split_starts : (p t : List ℕ) → starts_of (p ++ t) p ≡ true
split_starts p t = front_starts (p ++ t) p (take-append_seam p t)

-- the end of a slice from a place on is what is left of it
pub rest_part : (k : ℕ) (l : List ℕ) → take (length l - k) (drop k l) ≡ drop k l
rest_part k l = take_all (length l - k) (drop k l) (simp length-drop (omega arith))

-- ---- `same_of` is equality
pub same_refl : (s : List ℕ) → same_of s s ≡ true
unfolding same_of
same_refl s = rw (eq-eqb (length s) (length s) refl) (front_starts s s (take_all (length s) s (omega arith)))

pub same_true : (s t : List ℕ) → same_of s t ≡ true → s ≡ t
unfolding same_of
same_true s t e =
    elim (ℕ_discrete (length s) (length t)) [
      | yes l ↦ sym (take_all (length t) s (omega arith)) ∙ starts_front s t (rw (eq-eqb (length s) (length t) l) at e)
      | no l ↦ absurd (false≢true (rw (ne_eqb (length s) (length t) l) at e))
    ]

pub same_false : (s t : List ℕ) → (s ≡ t → ⊥) → same_of s t ≡ false
same_false s t h = by (same_of s t) (same_true s t) where
  by : (b : Bool) → (b ≡ true → s ≡ t) → b ≡ false
  by true p = absurd (h (p refl))
  by false p = refl

-- what `==` says of slices
pub decided_same : (s t : List ℕ) (r : Bool) → Decides r (s ≡ t) → r ≡ same_of s t
decided_same s t true d = sym (subst (λ (l : List ℕ). same_of s l ≡ true) (d.0 refl) (same_refl s))
decided_same s t false d = sym (same_false s t (λ e. false≢true (d.1 e)))

pub same_flip : (s t : List ℕ) → same_of s t ≡ false → same_of t s ≡ false
same_flip s t e =
    same_false t s
    (λ p. let q : same_of s t ≡ true = rw p (same_refl s) in let z : ◌≡◌ {A = ℕ} 0 1 = cc in omega arith)
