-- Lines of examples/keeper/tanks.svg, from the definitions: tank 1, whose marked part ends at 2700, of four lanes.
use mathlib.Core.List.{List, [], ◌∷◌, flat_map}
use mathlib.Core.Path.{◌≡◌, refl}
use Prim.Native.Nat.{ℕ}
use Rattle.text.specs.Bytes.{bytes}
use Rattle.text.specs.Number.{decimal_text, places_from}
use Rattle.answers.specs.Waiting.{Pieces}
use Rattle.picture.specs.Scale.{place_of}
use Rattle.picture.specs.Elements.{number_says, rect_says, text_says, colour_says, part_says}
use Rattle.picture.specs.Lanes.{lane_in, bar_says}
use Rattle.picture.specs.Bands.{band, label_says, tick_says, edge_says, edges_from, break_says, end_of}

abbrev joined : Pieces → List ℕ
joined = flat_map (λ piece. piece)

-- ---- the scale
at_150 : place_of 2700 150 ≡ 50
unfolding place_of
at_150 = refl

-- a fresh tank's length: counted in units of 4,194,304 positions
far : place_of 4611686018427387903 2305843009213693951 ≡ 449
unfolding place_of
far = refl

-- ---- a bar: the lowest of four keys, and the third
first_bar : joined (bar_says (record { place = 0; key = 1; row = lane_in (band 2700 188 40) 0 4 }) 54 150) ≡ bytes "<rect x='243' y='188' width='32' height='10' class='k0'/>\n"
unfolding flat_map bar_says part_says rect_says number_says colour_says place_of decimal_text places_from
first_bar = refl

third_bar : joined (bar_says (record { place = 2; key = 5; row = lane_in (band 2700 188 40) 2 4 }) 900 1560) ≡ bytes "<rect x='525' y='208' width='220' height='10' class='k2'/>\n"
unfolding flat_map bar_says part_says rect_says number_says colour_says place_of decimal_text places_from
third_bar = refl

-- ---- edges: the first has no room behind the label at 0, the second has
two_edges : joined (edges_from 2700 241 0 (54 ∷ 150 ∷ 1 ∷ [])) ≡ bytes "<path class='tick' d='M243 241v5'/>\n<path class='tick' d='M275 241v5'/>\n<text class='edge' x='275' y='258'>150</text>\n"
unfolding flat_map edges_from edge_says tick_says label_says text_says number_says place_of decimal_text places_from
two_edges = refl

-- ---- where the marked part ends
ends : end_of (54 ∷ 150 ∷ 1 ∷ 2640 ∷ 2700 ∷ 1 ∷ []) ≡ 2700
unfolding end_of
ends = refl

-- ---- the break sign
sign : joined (break_says 188) ≡ bytes "<rect x='1125' y='188' width='45' height='40' class='frame'/>\n<path class='gap' d='M1143 188m0 -4h11l-12 48h-11z'/>\n<path class='break' d='M1143 188m0 -4l-12 48M1154 188m0 -4l-12 48'/>\n"
unfolding flat_map break_says rect_says number_says decimal_text places_from
sign = refl
