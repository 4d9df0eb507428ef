-- A text up to the first of a byte, and behind it; and bytes that no name has.
use mathlib.Core.Path.{◌≡◌, refl, sym, ap, ◌∙◌}
use mathlib.Core.Bool.{true, false, true≢false, and-eq-true_iff}
use mathlib.Core.List.{List, [], ◌∷◌, ◌++◌}
use Prim.Native.Nat.{ℕ, suc, ◌+◌}
use native.Mathlib.Decide.{ℕ_discrete}
use native.Mathlib.Omega.{arith}
use lib.ListN.{length, drop}
use Rattle.text.specs.Bytes.{up_to, holds}
use Rattle.text.proofs.Finding.{front_here, front_past, held_here, held_past}
use Rattle.key_names.specs.Names.{in_name, all_in_name}

module _ (b : ℕ) where
  none_cons : (c : ℕ) (cs : List ℕ) → holds b (c ∷ cs) ≡ false → (c ≡ b → ⊥) × (holds b cs ≡ false)
  none_cons c cs e =
      elim (ℕ_discrete c b) [
        | yes h ↦ absurd (true≢false (sym (held_here b c cs h) ∙ e))
        | no h ↦ (h, sym (held_past b c cs h) ∙ e)
      ]

  -- a text without the byte, the byte, and more
  pub front_text : (s t : List ℕ) → holds b s ≡ false → up_to b (s ++ b ∷ t) ≡ s
  front_text [] t e = front_here b b t refl
  front_text (c ∷ cs) t e = let n = none_cons c cs e in front_past b c (cs ++ b ∷ t) n.0 ∙ ap (λ (l : List ℕ). c ∷ l) (front_text cs t n.1)

  pub held_text : (s t : List ℕ) → holds b s ≡ false → holds b (s ++ b ∷ t) ≡ true
  held_text [] t e = held_here b b t refl
  held_text (c ∷ cs) t e = let n = none_cons c cs e in held_past b c (cs ++ b ∷ t) n.0 ∙ held_text cs t n.1

  pub held_split : (t : List ℕ) → holds b t ≡ true → t ≡ up_to b t ++ b ∷ drop (length (up_to b t) + 1) t
  unfolding holds
  held_split [] e = absurd (true≢false (sym e))
  held_split (c ∷ cs) e =
      elim (ℕ_discrete c b) [
        | yes h ↦ rw (front_here b c cs h) (ap (λ (d : ℕ). d ∷ cs) h)
        | no h ↦
            let u : List ℕ = up_to b cs in
            let k : suc (length u + 1) ≡ suc (length u) + 1 = omega arith in
            rw (front_past b c cs h)
            (ap (λ (l : List ℕ). c ∷ l) (held_split cs (sym (held_past b c cs h) ∙ e)) ∙ ap (λ (n : ℕ). (c ∷ u) ++ b ∷ drop n (c ∷ cs)) k)
      ]

  -- a byte that no name has
  pub name_lacks : in_name b ≡ false → (s : List ℕ) → all_in_name s ≡ true → holds b s ≡ false
  unfolding holds all_in_name
  name_lacks h [] e = refl
  name_lacks h (c ∷ cs) e =
      let a = (and-eq-true_iff (in_name c) (all_in_name cs)).0 e in
      elim (ℕ_discrete c b) [
        | yes q ↦ absurd (true≢false (sym a.0 ∙ ap in_name q ∙ h))
        | no q ↦ held_past b c cs q ∙ name_lacks h cs a.1
      ]
