-- Bytes put one by one as they are shown.
use mathlib.Core.Path.{◌≡◌, refl, sym, ap, ◌∙◌}
use mathlib.Core.List.{List, [], ◌∷◌, ◌++◌, map}
use Prim.Native.Nat.{ℕ, zero, suc, ◌+◌, ◌≤◌, ◌<◌}
use native.Mathlib.Nat.{le_of_suc-le-suc, not-suc-le-zero}
use native.Mathlib.Numerals.{add-one}
use native.Mathlib.Omega.{arith}
use lib.ListN.{length, drop, take, set, get_or, length-set, length-map}
use lib.Seq.{paste, paste-suc, take-length}
use Rattle.explain.specs.Told.{byte_shown}

shown_at_lem : (l : List ℕ) (i : ℕ) → i < length l → get_or (map byte_shown l) i 0 ≡ byte_shown (get_or l i 0)
shown_at_lem [] i h = absurd (not-suc-le-zero h)
shown_at_lem (x ∷ xs) zero h = refl
shown_at_lem (x ∷ xs) (suc i) h = shown_at_lem xs i (le_of_suc-le-suc h)

pub shown_turn : (out out₀ line : List ℕ) (at i : ℕ) {b : ℕ} → at + length line ≤ length out₀ → i < length line → b ≡ byte_shown (get_or line i 0) → length out ≡ length out₀ → out ≡ paste out₀ at (map byte_shown line) i
    → (length (set out (at + i) b) ≡ length out₀) × (set out (at + i) b ≡ paste out₀ at (map byte_shown line) (i + 1))
shown_turn out out₀ line at i {b} room h is l e =
    let n = length-map line byte_shown in
    (simp length-set l, ap (λ (x : ℕ). set out (at + i) x) (is ∙ sym (shown_at_lem line i h)) ∙ ap (λ (d : List ℕ). set d (at + i) (get_or (map byte_shown line) i 0)) e ∙ paste-suc out₀ at (map byte_shown line) i 0 (omega arith) (omega (arith, n)) ∙ ap (paste out₀ at (map byte_shown line)) (sym (add-one i)))

pub shown_all : (out out₀ line : List ℕ) (at i : ℕ) → length line ≤ i → i ≤ length line → out ≡ paste out₀ at (map byte_shown line) i
    → (at + length line ≡ at + length (map byte_shown line)) × (out ≡ take at out₀ ++ map byte_shown line ++ drop (at + length (map byte_shown line)) out₀)
shown_all out out₀ line at i h l e =
    let t = map byte_shown line in
    let k : i ≡ length t = omega (arith, length-map line byte_shown) in
    (omega (arith, length-map line byte_shown), e ∙ ap (paste out₀ at t) k ∙ ap (λ (s : List ℕ). take at out₀ ++ s ++ drop (at + length t) out₀) (take-length t))
