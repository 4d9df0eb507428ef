-- The keys of a few marks; `hold` in front, and the letters then.
use mathlib.Core.Path.{◌≡◌, refl}
use mathlib.Core.List.{List, [], ◌∷◌}
use Prim.Native.Nat.{ℕ}
use lib.IntN.{pos}
use Rattle.styles.specs.declared.Mark.{Mark}
use Rattle.styles.specs.declared.Party.{Party}
use Rattle.styles.specs.declared.Party.TheVariants.{Plant, Lab}
use Rattle.styles.specs.declared.Value.TheVariants.{Null}
use Rattle.text.specs.Bytes.{bytes, holds}
use Rattle.key_names.specs.Names.{Named, key_text, is_named}
use Rattle.std.specs.Prelude.{None, Some}
use Rattle.key_legend.specs.Keys.{no_key, lowest_of}
use Rattle.key_legend.specs.Letters.{without, held_first, letters_from, letters_of}

mark : Party → ℕ → Mark
mark who k = record { key = k; flags = 128; party = who; lamport = 1; cnt = pos 0; peer = 1; value = Null }

three : List Mark
three = mark Plant 3 ∷ mark Plant 7 ∷ mark Lab 5 ∷ []

plant_first : lowest_of (Some Plant) 0 three ≡ 3
unfolding three mark lowest_of
plant_first = refl

plant_second : lowest_of (Some Plant) 4 three ≡ 7
unfolding three mark lowest_of
plant_second = refl

either_second : lowest_of None 4 three ≡ 5
unfolding three mark lowest_of
either_second = refl

lab_none : lowest_of (Some Lab) 6 three ≡ no_key
unfolding three mark lowest_of
lab_none = refl

-- two names with one letter, and a name that begins with a digit
names : List Named
names =
    record { key = 1; name = bytes "cleaning" } ∷
    record { key = 2; name = bytes "cold" } ∷
    record { key = 7; name = bytes "hold" } ∷
    record { key = 8; name = bytes "2nd" } ∷
    []

hold_first : held_first 7 (1 ∷ 2 ∷ 7 ∷ 8 ∷ 9 ∷ no_key ∷ []) ≡ 7 ∷ 1 ∷ 2 ∷ 8 ∷ 9 ∷ no_key ∷ []
unfolding held_first without holds
hold_first = refl

hold_none : held_first no_key (1 ∷ 2 ∷ no_key ∷ []) ≡ 1 ∷ 2 ∷ no_key ∷ []
unfolding held_first without holds
hold_none = refl

their_letters : letters_of names (7 ∷ 1 ∷ 2 ∷ 8 ∷ 9 ∷ no_key ∷ []) ≡ bytes "hc345."
unfolding names letters_of letters_from key_text is_named holds
their_letters = refl
