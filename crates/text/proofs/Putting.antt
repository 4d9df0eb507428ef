-- Texts put into a buffer one behind the other are one text put there.
use mathlib.Core.Path.{◌≡◌, sym, ap, ap₂, ◌∙◌}
use mathlib.Core.List.{List, ◌++◌, append_assoc}
use Prim.Native.Nat.{ℕ, ◌+◌, ◌≤◌}
use native.Mathlib.Omega.{arith}
use lib.ListN.{length, take, drop, length-append, length-take, length-drop}
use lib.Seq.{length-take-le, take_at, drop-append-add}
use Rattle.text.specs.Number.{put}

-- a text put takes no room away, wherever it is put
pub put_room : (d : List ℕ) (at : ℕ) (s : List ℕ) → length d ≤ length (put d at s)
put_room d at s =
    omega (arith, length-append (take at d ++ s) (drop (at + length s) d), length-append (take at d) s, length-take at d, length-drop (at + length s) d)

module _ (d : List ℕ) (at : ℕ) (s : List ℕ) (room : at + length s ≤ length d) where
  length_written : length (take at d ++ s) ≡ at + length s
  length_written = simp (length-append, length-take-le at d (omega arith))

  pub take_put : take (at + length s) (put d at s) ≡ take at d ++ s
  take_put = take_at (take at d ++ s) (drop (at + length s) d) (at + length s) length_written

  pub drop_put : (n : ℕ) → drop (at + length s + n) (put d at s) ≡ drop (at + length s + n) d
  drop_put n =
      ap (λ (k : ℕ). drop (k + n) (put d at s)) (sym length_written) ∙ drop-append-add (take at d ++ s) (drop (at + length s) d) n ∙ lib.Seq.drop-drop n (at + length s) d

  pub put_put : (t : List ℕ) → put (put d at s) (at + length s) t ≡ put d at (s ++ t)
  put_put t =
      let e : at + length s + length t ≡ at + length (s ++ t) = omega (arith, length-append s t) in
      ap₂ (λ (a b : List ℕ). a ++ t ++ b) take_put (drop_put (length t) ∙ ap (λ (k : ℕ). drop k d) e)
      ∙ ap (λ (l : List ℕ). l ++ drop (at + length (s ++ t)) d) (append_assoc (take at d) s t)
