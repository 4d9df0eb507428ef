-- What a saved text says: as much room as is lent is as good as what a call names.
use Prim.Native.Nat.{ℕ, ◌≤◌, min}
use mathlib.Core.Path.{◌≡◌, refl, ap, ap₂, ◌∙◌}
use mathlib.Core.Bool.{Bool, true, false, cond}
use mathlib.Core.List.{List, []}
use native.Mathlib.Omega.{arith}
use lib.Dec.{eqb}
use lib.ListN.{length, take, drop, length-append}
use lib.Seq.{take-append_seam}
use Rattle.runs.specs.Stretches.{in_front}
use Rattle.lists.specs.declared.Listed.{Listed}
use Rattle.lists.specs.Lists.{unless_refused, filled_beside}
use Rattle.tanks.specs.declared.Tanks.{Tanks}
use Rattle.tanks.specs.Pool.{meaning, Sound}
use Rattle.saved.specs.Writes.{written, write_number}
use Rattle.saved.proofs.Bound.{written_most}
use Rattle.answers.specs.Replies.{refused_says, or_refused, bytes_say}
use Rattle.clerk.proofs.Lists.{least_room}

-- more room than the longest text takes makes no difference
pub save_room : (s : Tanks) → Sound s → (room lent : ℕ) → lent ≡ min room 117930 → write_number lent (meaning s) ≡ write_number room (meaning s)
save_room s ok room lent e =
    ap (λ (n : ℕ). write_number n (meaning s)) e ∙ least_room 117930 0 room (length (written (meaning s))) (written_most s ok)

-- what was lent has the text in front, or nothing was written
module _ (n : ℕ) (t d : List ℕ) (l : Listed) (e : List ℕ) (is : l ≡ filled_beside n t) (filled : e ≡ in_front (unless_refused n t) d) where
  pub saved_said : or_refused l.number (bytes_say (take l.count e)) ≡ or_refused n (bytes_say t)
  saved_said = ap₂ (λ (x : Listed) (y : List ℕ). or_refused x.number (bytes_say (take x.count y))) is filled ∙ go (eqb n 0)
    where
      go : (b : Bool) → cond b (bytes_say (take (length (cond b t [])) (in_front (cond b t []) d))) (refused_says n) ≡ cond b (bytes_say t) (refused_says n)
      go true = ap bytes_say (take-append_seam t (drop (length t) d))
      go false = refl

  pub saved_inside : l.count ≤ length e
  saved_inside = omega (arith, ap (λ (x : Listed). x.count) is, ap length filled, length-append (unless_refused n t) (drop (length (unless_refused n t)) d))
