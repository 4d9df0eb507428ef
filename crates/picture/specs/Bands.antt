-- docs/KEEPER.md, "picture": a tank's band, with what is held, the positions at its edges, the break sign, and the words beside it. `list` is
-- the list of the tank's marked stretches, `end` where its marked part ends, `top` how far from the top its band lies.
use Rattle.std.specs.Prelude.{Bool, true, false, cond, ◌&&◌, List, [], ◌∷◌, ◌++◌, ℕ, ◌+◌, ◌-◌, ◌*◌, ltb, leb, length, get_or}
use Rattle.answers.specs.Waiting.{Pieces}
use Rattle.lists.specs.Lists.{whole_list}
use Rattle.pen.specs.Pen.{between_says}
use Rattle.questions.specs.declared.Told.{Told}
use Rattle.questions.specs.Questions.{range_contains_key}
use Rattle.styles.specs.declared.Party.TheVariants.{Plant, Lab}
use Rattle.tank.specs.Rules.{View, runs_held, carried, marks_of}
use Rattle.tanks.specs.declared.Setting.{Setting}
use Rattle.tanks.specs.House.{House, tank_at, shown_at}
use Rattle.tanks.specs.Settings.{no_setting}
use Rattle.text.specs.Bytes.{bytes}
use Rattle.text.specs.Number.{decimal_text}
use Rattle.picture.specs.declared.scale.Band.{Band}
use Rattle.picture.specs.Scale.{place_of}
use Rattle.picture.specs.Elements.{each_from, each_stretch, number_says, rect_says, text_says, frame_says, part_says}
use Rattle.picture.specs.Lanes.{side_says, lab_says}

-- a band by its three numbers
abbrev pub band : ℕ → ℕ → ℕ → Band
band end top height = record { end = end; top = top; height = height }

-- ---- What is held
-- the answer is yes
unfoldable pub is_yes : Told → Bool
is_yes (Told.Refused n) = false
is_yes Told.No = false
is_yes Told.Yes = true

-- some position of from .. to has a mark with the hold key, of either party, null or not
abbrev pub held_in : View → ℕ → ℕ → ℕ → Bool
held_in v hold from to = is_yes (range_contains_key from to hold v)

-- a hatched part of a band
unfoldable pub hatch_says : Band → ℕ → ℕ → Pieces
hatch_says b from to = part_says b from to ++ bytes " class='held'/>\n" ∷ []

-- every stretch that is held; without a hold key, which is then 65536, nothing
unfoldable pub holds_say : View → Band → ℕ → List ℕ → Pieces
holds_say v b hold list = cond (ltb 65535 hold) [] (each_stretch (λ from to marks. cond (held_in v hold from to) (hatch_says b from to) []) list)

-- ---- Positions at the edges
-- how many units a number takes
abbrev pub room_of : ℕ → ℕ
room_of n = length (decimal_text n) * 7 + 14

-- a number under a place of a band
unfoldable pub label_says : ℕ → ℕ → ℕ → Pieces
label_says x y n = text_says (bytes "edge") (225 + x) y ++ number_says n (bytes "</text>\n")

-- a tick there
unfoldable pub tick_says : ℕ → ℕ → Pieces
tick_says x y = between_says (bytes "<path class='tick' d='M") (225 + x) (bytes " ") ++ number_says y (bytes "v5'/>\n")

-- at place x there is room for a position, behind the last label and before the one at the right edge
abbrev pub labelled : ℕ → ℕ → ℕ → Bool
labelled end last x = leb (last + room_of end) x && leb (x + room_of end) 900

-- where the last label is after the edge at a position
abbrev pub last_after : ℕ → ℕ → ℕ → ℕ
last_after end last pos = cond (labelled end last (place_of end pos)) (place_of end pos) last

-- an edge of a stretch: its tick, and its position where there is room
unfoldable pub edge_says : ℕ → ℕ → ℕ → ℕ → Pieces
edge_says end y last pos = tick_says (place_of end pos) y ++ cond (labelled end last (place_of end pos)) (label_says (place_of end pos) (y + 17) pos) []

-- the two edges of each stretch
unfoldable pub edges_from : ℕ → ℕ → ℕ → List ℕ → Pieces
edges_from end y last [] = []
edges_from end y last (a ∷ []) = []
edges_from end y last (a ∷ b ∷ []) = []
edges_from end y last (a ∷ b ∷ n ∷ rest) =
    (edge_says end y last a ++ edge_says end y (last_after end last a) b) ++ edges_from end y (last_after end (last_after end last a) b) rest

-- all edges, and the positions at the band's own two, which always have room
unfoldable pub edges_say : ℕ → ℕ → List ℕ → Pieces
edges_say end y list = edges_from end y 0 list ++ (label_says 0 (y + 17) 0 ++ label_says 900 (y + 17) end)

-- ---- A tank
-- the sign that a tank goes on without marks behind its band: the band goes on for a little, behind two slanting lines
unfoldable pub break_says : ℕ → Pieces
break_says y =
    rect_says 1125 y 45 40
    ++ (between_says (bytes " class='frame'/>\n<path class='gap' d='M1143 ") y (bytes "m0 -4h11l-12 48h-11z'/>\n")
    ++ (between_says (bytes "<path class='break' d='M1143 ") y (bytes "m0 -4l-12 48") ++ between_says (bytes "M1154 ") y (bytes "m0 -4l-12 48'/>\n")))

-- the tank's number
unfoldable pub name_says : ℕ → ℕ → Pieces
name_says y t = text_says (bytes "name") 30 y ++ between_says (bytes "Tank ") t (bytes "</text>\n")

-- its runs, its share and its limit
unfoldable pub runs_say : ℕ → ℕ → Setting → Pieces
runs_say y runs s =
    text_says (bytes "small") 30 y ++ (between_says (bytes "runs ") runs (bytes ", share ") ++ (number_says s.share (bytes ", limit ") ++ number_says s.limit (bytes "</text>\n")))

-- its length
unfoldable pub length_says : ℕ → ℕ → Pieces
length_says y n = text_says (bytes "small") 30 y ++ between_says (bytes "length ") n (bytes "</text>\n")

-- the words beside a band
unfoldable pub beside_says : View → ℕ → Setting → ℕ → Pieces
beside_says v t s top = name_says (top + 12) t ++ (runs_say (top + 28) (runs_held v) s ++ length_says (top + 42) v.length)

-- a tank without marks
unfoldable pub empty_says : ℕ → Pieces
empty_says top = frame_says (band 0 top 40) ++ (text_says (bytes "none") 675 (top + 25) ++ bytes "no marks</text>\n" ∷ break_says top)

-- where the marked part ends: the end of the last stretch, 0 for none
unfoldable pub end_of : List ℕ → ℕ
end_of list = cond (ltb (length list) 3) 0 (get_or list (length list - 2) 0)

-- how deep the bands of a tank are, with the laboratory's or without
abbrev pub depth_of : View → ℕ
depth_of v = cond (ltb 0 (marks_of Lab (carried v))) 52 40

-- the plant's marks, and the laboratory's under them
unfoldable pub sides_say : House → List ℕ → ℕ → ℕ → ℕ → Pieces
sides_say h keys t end top = side_says (shown_at h Plant t) keys (band end top 40) ++ lab_says (shown_at h Lab t) keys (band end (top + 42) 10)

-- what lies over them and under them
unfoldable pub over_says : View → ℕ → ℕ → ℕ → List ℕ → Pieces
over_says v hold end top list =
    holds_say v (band end top (depth_of v)) hold list ++ (edges_say end (top + depth_of v + 1) list ++ cond (ltb end v.length) (break_says top) [])

-- all of a tank's band
unfoldable pub drawn_says : House → List ℕ → ℕ → ℕ → ℕ → List ℕ → Pieces
drawn_says h keys hold t top list =
    cond (ltb (end_of list) 1) (empty_says top) (sides_say h keys t (end_of list) top ++ over_says (tank_at h t) hold (end_of list) top list)

-- tank t: the words beside its band, and the band
unfoldable pub tank_says : House → List ℕ → ℕ → ℕ → Pieces
tank_says h keys hold t =
    beside_says (tank_at h t) t (get_or h.settings t no_setting) (96 + t * 92) ++ drawn_says h keys hold t (96 + t * 92) (whole_list (tank_at h t))

-- the eight tanks
unfoldable pub tanks_say : House → List ℕ → ℕ → Pieces
tanks_say h keys hold = each_from (tank_says h keys hold) 0 8
