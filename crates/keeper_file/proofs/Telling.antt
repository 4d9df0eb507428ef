-- What is read back is what the text says, and what is kept after a renewal says its place and its tanks, whether it was written or stood there already.
use mathlib.Core.Path.{◌≡◌, refl, sym, ap, ap₂, subst, ◌∙◌}
use mathlib.Core.Bool.{Bool, false, cond}
use mathlib.Core.List.{List, []}
use Prim.Native.Nat.{ℕ, ◌+◌, ◌≤◌, min}
use native.Mathlib.Omega.{arith}
use lib.ListN.{length, take, drop, length-append}
use lib.Seq.{length-take-le}
use Rattle.text.specs.Number.{put}
use Rattle.text.proofs.Putting.{take_put, put_room}
use Rattle.text_lines.specs.Lines.{Got, bad, got}
use Rattle.lists.specs.Lists.{unless_refused}
use Rattle.tanks.specs.declared.Tanks.{Tanks}
use Rattle.tanks.specs.House.{House}
use Rattle.tanks.specs.Pool.{meaning}
use Rattle.keeper_file.specs.declared.Back.{Back}
use Rattle.keeper_file.specs.declared.Renewed.{Renewed}
use Rattle.keeper_file.specs.File.{file_of, Filed, file_says, FiledAgain, back_number, back_place, back_house, ReadsBack, Renews}
use Rattle.keeper_file.specs.Keeping.{Tells, Holds}
use Rattle.keeper_file.proofs.Renewal.{new_text, renewed_kept}

-- ---- Read back
pub back_tells : (s : Tanks) (text : List ℕ) (r : Back) → ReadsBack s text r → r.number ≡ 0 → Tells r.place (meaning r.tanks) text
back_tells s text r b z = by (file_says text) refl where
  by : (g : Got Filed) → file_says text ≡ g → Tells r.place (meaning r.tanks) text
  by (bad n) e = absurd (omega (arith, z, b.number_is ∙ ap back_number e))
  by (got f n rest) e =
      let place : f.place ≡ r.place = sym (b.place_is ∙ ap back_place e) in
      let house : f.house ≡ meaning r.tanks = sym (b.is ∙ ap (back_house (meaning s)) e) in
      record { lines = n; left = rest; is = e ∙ ap₂ (λ (p : ℕ) (h : House). got (record { place = p; house = h }) n rest) place house }

-- ---- Renewed
again_tells : (place : ℕ) (h : House) → FiledAgain place h → Tells place h (file_of place h)
again_tells place h f = record { lines = f.lines; left = []; is = f.is }

-- it stood there already
pub same_tells : (place : ℕ) (h : House) (kept buffer : List ℕ) (r : Renewed) (out : List ℕ) → Renews place h kept buffer r out → r.number ≡ 0 → r.changed ≡ false → Tells place h kept
same_tells place h kept buffer r out n z c =
    subst (Tells place h) (sym (renewed_kept place h kept buffer out r n z) ∙ ap (λ (b : Bool). cond b (take r.count out) kept) c) (again_tells place h (n.again z))

-- the other buffer has all of it in front
count_inside : (place : ℕ) (h : House) (kept buffer : List ℕ) (r : Renewed) (out : List ℕ) → Renews place h kept buffer r out → r.count ≤ length out
count_inside place h kept buffer r out n =
    let xs = unless_refused r.number (file_of place h) in
    omega (arith, n.count_is, ap length n.text, length-append xs (drop (length xs) buffer))

-- and was put in place of the one that was kept
pub put_holds : (place : ℕ) (h : House) (kept before buffer : List ℕ) (r : Renewed) (out : List ℕ) (n : ℕ) → Renews place h before buffer r out → r.number ≡ 0 → n ≡ min r.count (length out) → n ≤ length kept → Holds place h n (put kept 0 (take n out))
put_holds place h kept before buffer r out n k z e room =
    let all : n ≡ r.count = omega (arith, e, count_inside place h before buffer r out k) in
    let text : take n out ≡ file_of place h = ap (λ (m : ℕ). take m out) all ∙ new_text place h before buffer out r k z in
    let long : length (take n out) ≡ n = length-take-le n out (omega (arith, e)) in
    let from : n ≡ 0 + length (take n out) = omega (arith, long) in
    let whole : take n (put kept 0 (take n out)) ≡ take n out = ap (λ (m : ℕ). take m (put kept 0 (take n out))) from ∙ take_put kept 0 (take n out) (omega (arith, room, long)) in
    record {
      inside = omega (arith, room, put_room kept 0 (take n out));
      tells = subst (Tells place h) (sym (whole ∙ text)) (again_tells place h (k.again z));
    }
