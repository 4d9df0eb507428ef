-- The cells of a small tank, computed from the definitions: key 1 shows a value at 2 and 3, key 0 at 3 alone, and key 2 is a winning null at 5.
use Prim.Native.Nat.{ℕ}
use mathlib.Core.Path.{◌≡◌, refl}
use mathlib.Core.Bool.{true, cond}
use mathlib.Core.List.{[], ◌∷◌}
use lib.Dec.{eqb}
use lib.IntN.{pos}
use Rattle.styles.specs.declared.Mark.{Mark}
use Rattle.styles.specs.declared.Party.TheVariants.{Plant}
use Rattle.styles.specs.declared.Value.{Value}
use Rattle.styles.specs.declared.Value.TheVariants.{Null, Flag}
use Rattle.styles.specs.Marks.{winner}
use Rattle.runs.specs.Positions.{any_at}
use Rattle.questions.specs.Questions.{position_refusal}
use Rattle.windows.specs.Windows.{is_value}
use Rattle.tank.specs.Rules.{View}
use Rattle.strip.specs.Strip.{letter_from, strip_number}
use Rattle.strip.specs.Legend.{first_legend}

mark : ℕ → Value → Mark
mark key v = record { key = key; flags = 132; party = Plant; lamport = 1; cnt = pos 0; peer = 1; value = v }

small : View
small =
    record {
      length = 6;
      touched = true;
      at = λ p. cond (eqb p 2) (mark 1 (Flag true) ∷ []) (cond (eqb p 3) (mark 0 (Flag true) ∷ mark 1 (Flag true) ∷ []) (cond (eqb p 5) (mark 2 Null ∷ []) []));
    }

cell : ℕ → ℕ → ℕ
cell from to = letter_from small first_legend.keys first_legend.letters from to 0 8

-- a dot before the marks; key 1's digit; the first key's, though a later position shows it; none for the null, and none past the length
cells : (cell 0 2 ≡ 46) × (cell 2 3 ≡ 49) × (cell 2 4 ≡ 48) × (cell 4 6 ≡ 46) × (cell 6 9 ≡ 46)
unfolding cell small mark letter_from any_at is_value position_refusal winner
cells = (refl, refl, refl, refl, refl)

-- 1, then 3, then 11, and 96 bytes are enough
numbers : (strip_number 8 0 0 ≡ 1) × (strip_number 7 0 0 ≡ 3) × (strip_number 7 1 95 ≡ 11) × (strip_number 7 1 96 ≡ 0)
unfolding strip_number
numbers = (refl, refl, refl, refl)
