-- A row, a strip's cells and a legend, as they are printed.
use mathlib.Core.Path.{◌≡◌, refl}
use mathlib.Core.Bool.{true, false, cond}
use mathlib.Core.List.{List, [], ◌∷◌, ◌++◌, flatten}
use lib.Dec.{eqb}
use Rattle.text.specs.Bytes.{bytes}
use Rattle.text.specs.Number.{places_from, decimal_text}
use Rattle.styles.specs.Marks.{blank, only}
use Rattle.key_names.specs.Names.{Named, key_text}
use Rattle.glance.specs.Glance.{each_from, row_front, row_marks, row_end, marked_to, cell_of, legend_says}

-- tank 5 of the keeper's example, but for its marks
row : flatten (row_front 5 (record { share = 48; limit = 200 }) 15 ++ row_marks [] ++ row_end true 4611686018427387928) ≡ bytes "   5      48     200      15             0           0       yes   4611686018427387928\n"
unfolding flatten decimal_text places_from only
row = refl

-- of five positions only the third carries a mark
marked : marked_to (λ p. cond (eqb p 2) (blank ∷ []) []) 5 ≡ 3
unfolding marked_to
marked = refl

-- up to 96 positions a cell has one, and 97 take two
one : cell_of 96 ≡ 1
one = refl

two : cell_of 97 ≡ 2
two = refl

hold : List Named
hold = record { key = 7; name = bytes "hold" } ∷ []

-- five keys of eight, and one of them named
legend : flatten (legend_says hold (7 ∷ 1 ∷ 2 ∷ 3 ∷ 5 ∷ 65536 ∷ 65536 ∷ 65536 ∷ []) (bytes "h2345...") true) ≡ bytes "      h hold   2 key 1   3 key 2   4 key 3\n      5 key 5\n      Higher keys are not in the strips.\n"
unfolding flatten decimal_text places_from each_from legend_says hold key_text
legend = refl

-- no key, no legend
none : legend_says hold (65536 ∷ []) [] false ≡ []
unfolding legend_says
none = refl
