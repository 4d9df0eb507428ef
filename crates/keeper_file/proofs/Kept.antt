-- What is promised of the keeper's file: what was written reads back as its place and its tanks, and no other place and tanks have its text.
use mathlib.Core.Path.{◌≡◌, refl, sym, ap, ◌∙◌}
use mathlib.Core.List.{[], ◌++◌}
use Prim.Native.Nat.{ℕ, ◌^◌, ◌≤◌, ◌<◌}
use native.Mathlib.Omega.{arith}
use lib.ListN.{length, length-append}
use Rattle.text.specs.Bytes.{bytes}
use Rattle.text.specs.Number.{decimal_text}
use Rattle.text.proofs.Laws.{length_decimal}
use Rattle.text_lines.proofs.Then.{got_inj}
use Rattle.tanks.specs.declared.Tanks.{Tanks}
use Rattle.tanks.specs.House.{House}
use Rattle.tanks.specs.Pool.{Sound, meaning}
use Rattle.tanks.proofs.Unique.{unique}
use Rattle.saved.specs.Writes.{written}
use Rattle.saved.proofs.Bound.{written_most}
use Rattle.keeper_file.specs.declared.Back.{Back}
use Rattle.keeper_file.specs.File.{place_name, place_text, file_of, most_bytes, Filed, file_says, FiledAgain, back_number, back_place, back_house, ReadsBack}

-- reading back what was written for a place and some tanks gives that place and those tanks, whatever tanks there were
pub read_written : (s t : Tanks) (place : ℕ) (r : Back) → Sound s → FiledAgain place (meaning s) → ReadsBack t (file_of place (meaning s)) r → (r.number ≡ 0) × (r.place ≡ place) × (r.tanks ≡ s)
read_written s t place r h f b = (
  b.number_is ∙ ap back_number f.is,
  b.place_is ∙ ap back_place f.is,
  unique r.tanks s b.sound h (b.is ∙ ap (back_house (meaning t)) f.is),
)

-- two files with one text are of one place and one house
pub one_file : (p q : ℕ) (g h : House) → FiledAgain p g → FiledAgain q h → file_of p g ≡ file_of q h → (p ≡ q) × (g ≡ h)
one_file p q g h a b e =
    let k = got_inj (record { place = p; house = g }) (record { place = q; house = h }) a.lines b.lines [] [] (sym a.is ∙ ap file_says e ∙ b.is) in
    (ap (λ (f : Filed). f.place) k.0, ap (λ (f : Filed). f.house) k.0)

-- no file of a sound state is longer than that
pub file_most : (s : Tanks) (place : ℕ) → Sound s → place < 2 ^ 64 → length (file_of place (meaning s)) ≤ most_bytes
file_most s place h p =
    let five : length place_name ≡ 5 = refl in
    let one : length (bytes "\n") ≡ 1 = refl in
    omega (
      arith,
      five,
      one,
      length-append (place_text place) (written (meaning s)),
      length-append place_name (decimal_text place ++ bytes "\n"),
      length-append (decimal_text place) (bytes "\n"),
      length_decimal place p,
      written_most s h,
    )
