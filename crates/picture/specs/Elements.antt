-- The elements of SVG that the picture is made of, as pieces of text.
use Rattle.std.specs.Prelude.{List, [], ◌∷◌, ◌++◌, ℕ, zero, suc, ◌+◌}
use Rattle.text.specs.Bytes.{bytes}
use Rattle.text.specs.Number.{decimal_text}
use Rattle.answers.specs.Waiting.{Pieces}
use Rattle.pen.specs.Pen.{between_says}
use Rattle.picture.specs.declared.scale.Band.{Band}
use Rattle.picture.specs.Scale.{place_of, width_of}

-- ---- One after another
-- f j, f (j + 1) and so on: n of them
unfoldable pub each_from : (ℕ → Pieces) → ℕ → ℕ → Pieces
each_from f j zero = []
each_from f j (suc n) = f j ++ each_from f (suc j) n

-- what is said of each stretch of a list of three numbers each: start, end, count of marks
unfoldable pub each_stretch : (ℕ → ℕ → ℕ → Pieces) → List ℕ → Pieces
each_stretch f [] = []
each_stretch f (a ∷ []) = []
each_stretch f (a ∷ b ∷ []) = []
each_stretch f (a ∷ b ∷ n ∷ rest) = f a b n ++ each_stretch f rest

-- ---- Elements
-- a number, and a text behind it
unfoldable pub number_says : ℕ → List ℕ → Pieces
number_says n behind = decimal_text n ∷ behind ∷ []

-- a rectangle by its left upper corner, width and height, up to its class
unfoldable pub rect_says : ℕ → ℕ → ℕ → ℕ → Pieces
rect_says x y width height = between_says (bytes "<rect x='") x (bytes "' y='") ++ (number_says y (bytes "' width='") ++ (number_says width (bytes "' height='") ++ number_says height (bytes "'")))

-- a text of a class at a point, up to its first letter
unfoldable pub text_says : List ℕ → ℕ → ℕ → Pieces
text_says class x y = bytes "<text class='" ∷ class ∷ (between_says (bytes "' x='") x (bytes "' y='") ++ number_says y (bytes "'>"))

-- the end of a text
abbrev pub text_ends : Pieces
text_ends = bytes "</text>\n" ∷ []

-- the class of a key's colour, by the key's place among those that have one, and the end of its element
unfoldable pub colour_says : ℕ → Pieces
colour_says place = between_says (bytes " class='k") place (bytes "'/>\n")

-- ---- In a band
-- a band as a whole: its left edge is at 225
unfoldable pub frame_says : Band → Pieces
frame_says b = rect_says 225 b.top 900 b.height ++ bytes " class='frame'/>\n" ∷ []

-- the positions from .. to of a band, up to their class
unfoldable pub part_says : Band → ℕ → ℕ → Pieces
part_says b from to = rect_says (225 + place_of b.end from) b.top (width_of b.end from to) b.height
