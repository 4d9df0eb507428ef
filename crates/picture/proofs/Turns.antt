-- A turn of the loops: over the stretches of a list, and over numbers one after another.
use mathlib.Core.Path.{◌≡◌, refl, sym, ap, ◌∙◌}
use mathlib.Core.List.{List, [], ◌∷◌, ◌++◌}
use Prim.Native.Nat.{ℕ, suc, ◌+◌, ◌-◌, ◌≤◌, ◌<◌}
use native.Mathlib.Omega.{arith}
use lib.ListN.{length, get_or, take, drop}
use Rattle.answers.specs.Waiting.{Pieces}
use Rattle.answers.proofs.Loops.{rest_is}
use Rattle.picture.specs.Elements.{each_from, each_stretch}

module _ (f : ℕ → ℕ → ℕ → Pieces) where
  -- one stretch more
  pub stretch_more : (l : List ℕ) → 3 ≤ length l → each_stretch f l ≡ f (get_or l 0 0) (get_or l 1 0) (get_or l 2 0) ++ each_stretch f (take (length l - 3) (drop 3 l))
  unfolding each_stretch
  stretch_more [] h = absurd (omega arith)
  stretch_more (a ∷ []) h = absurd (omega arith)
  stretch_more (a ∷ b ∷ []) h = absurd (omega arith)
  stretch_more (a ∷ b ∷ c ∷ l) h = ap (λ (k : List ℕ). f a b c ++ each_stretch f k) (sym (rest_is (a ∷ b ∷ c ∷ l)))

  -- fewer than three numbers are none
  pub stretch_none : (l : List ℕ) → length l < 3 → each_stretch f l ≡ []
  unfolding each_stretch
  stretch_none [] h = refl
  stretch_none (a ∷ []) h = refl
  stretch_none (a ∷ b ∷ []) h = refl
  stretch_none (a ∷ b ∷ c ∷ l) h = absurd (omega arith)

module _ (f : ℕ → Pieces) (n j : ℕ) where
  -- one more
  pub each_more : j < n → each_from f j (n - j) ≡ f j ++ each_from f (j + 1) (n - (j + 1))
  unfolding each_from
  each_more h =
      let e : n - j ≡ suc (n - (j + 1)) = omega arith in
      let g : suc j ≡ j + 1 = omega arith in
      ap (λ (m : ℕ). each_from f j m) e ∙ ap (λ (k : ℕ). f j ++ each_from f k (n - (j + 1))) g

  -- none is left
  pub each_none : n ≤ j → each_from f j (n - j) ≡ []
  unfolding each_from
  each_none h = let e : n - j ≡ 0 = omega arith in ap (λ (m : ℕ). each_from f j m) e
