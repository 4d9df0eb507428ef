-- docs/KEEPER.md, "picture": which keys have a lane in a tank's band, where it lies, and where it has bars. `v` is what a party is shown of a
-- tank, `list` the list of its marked stretches, `keys` the twelve lowest keys that occur, 65536 behind the last.
use Rattle.std.specs.Prelude.{Bool, false, cond, ◌&&◌, List, [], ◌∷◌, ◌++◌, ℕ, ◌+◌, ◌-◌, ◌*◌, ◌/◌, max, ltb, leb, length, get_or}
use Rattle.std.specs.List.{list_any}
use Rattle.answers.specs.Waiting.{Pieces}
use Rattle.lists.specs.Lists.{whole_list}
use Rattle.questions.specs.declared.Asked.{Asked}
use Rattle.questions.specs.Questions.{style_at}
use Rattle.runs.specs.Positions.{sum_below}
use Rattle.styles.specs.declared.Mark.{Mark}
use Rattle.text.specs.Bytes.{bytes}
use Rattle.tank.specs.Rules.{View, carried}
use Rattle.windows.specs.Windows.{shows_at}
use Rattle.picture.specs.declared.scale.Band.{Band}
use Rattle.picture.specs.declared.lanes.Lane.{Lane}
use Rattle.picture.specs.declared.lanes.Rows.{Rows}
use Rattle.picture.specs.Elements.{each_from, each_stretch, text_says, part_says, colour_says, frame_says}

-- ---- Where a lane lies
-- the r-th of n lanes that share the height of a band, at least one unit high
abbrev pub lane_in : Band → ℕ → ℕ → Band
lane_in b r n =
    record {
      end = b.end;
      top = b.top + r * b.height / n;
      height = max ((r + 1) * b.height / n - r * b.height / n) 1;
    }

-- ---- Which keys have one
-- a mark's key is from `least` to `most`
abbrev pub key_within : ℕ → ℕ → Mark → Bool
key_within least most m = leb least m.key && leb m.key most

-- some mark's is
abbrev pub any_key : ℕ → ℕ → List Mark → Bool
any_key least most ms = list_any (key_within least most) ms

-- a mark that is shown has the key; 65536 is none
abbrev pub occurs : View → ℕ → Bool
occurs v key = cond (ltb 65535 key) false (any_key key key (carried v))

-- a mark that is shown has this key or a higher one
abbrev pub higher_in : View → ℕ → Bool
higher_in v least = any_key least 65535 (carried v)

-- how many of the first j keys have a lane
abbrev pub lanes_below : View → List ℕ → ℕ → ℕ
lanes_below v keys j = sum_below (λ i. cond (occurs v (get_or keys i 0)) 1 0) j

-- how many lanes there are: one for each of the twelve keys that occurs here, and one for all that are higher than these
abbrev pub lane_count : View → List ℕ → ℕ → ℕ
lane_count v keys least = lanes_below v keys 12 + cond (higher_in v least) 1 0

-- from which key on they are higher: behind the twelfth, and 65536 where there is none
abbrev pub behind_last : List ℕ → ℕ
behind_last keys = cond (ltb (get_or keys 11 0) 65536) (get_or keys 11 0 + 1) 65536

-- ---- Its bars
-- a bar of a lane
unfoldable pub bar_says : Lane → ℕ → ℕ → Pieces
bar_says lane from to = part_says lane.row from to ++ colour_says lane.place

-- a bar for each stretch at which the lane's key shows a value
unfoldable pub key_bars : View → Lane → List ℕ → Pieces
key_bars v lane list = each_stretch (λ from to marks. cond (shows_at v lane.key from) (bar_says lane from to) []) list

-- the answer is a mark whose key is at least so much
unfoldable pub is_from : ℕ → Asked → Bool
is_from least (Asked.Refused n) = false
is_from least Asked.Nothing = false
is_from least (Asked.Found m) = leb least m.key

-- the last of a position's so many marks has at least that key; it has the highest of them (`last_highest`, proofs/HigherLaws)
abbrev pub higher_at : View → ℕ → ℕ → ℕ → Bool
higher_at v least p marks = is_from least (style_at p (marks - 1) v)

-- the lane of all keys from `least` on: a bar for each stretch with a mark of such a key
unfoldable pub higher_bars : View → Lane → List ℕ → Pieces
higher_bars v lane list = each_stretch (λ from to marks. cond (higher_at v lane.key from marks) (bar_says lane from to) []) list

-- ---- All lanes of a band
-- the lane of a key, by its place among the keys, as the r-th lane, where the key occurs
unfoldable pub lane_says : View → Rows → List ℕ → ℕ → ℕ → ℕ → Pieces
lane_says v rows list key place r = cond (occurs v key) (key_bars v (record { place = place; key = key; row = lane_in rows.band r rows.count }) list) []

-- the lanes of the twelve keys, the lowest on top
unfoldable pub lanes_say : View → Rows → List ℕ → List ℕ → Pieces
lanes_say v rows keys list = each_from (λ j. lane_says v rows list (get_or keys j 0) j (lanes_below v keys j)) 0 12

-- the lane of the higher ones, under them, in grey
unfoldable pub higher_says : View → Rows → ℕ → List ℕ → Pieces
higher_says v rows least list = cond (higher_in v least) (higher_bars v (record { place = 12; key = least; row = lane_in rows.band (rows.count - 1) rows.count }) list) []

-- the rows of a band
abbrev pub rows_of : View → List ℕ → Band → Rows
rows_of v keys b = record { count = lane_count v keys (behind_last keys); band = b }

-- the band of a party: its frame and its lanes
unfoldable pub side_says : View → List ℕ → Band → Pieces
side_says v keys b = frame_says b ++ (lanes_say v (rows_of v keys b) keys (whole_list v) ++ higher_says v (rows_of v keys b) (behind_last keys) (whole_list v))

-- the laboratory's, where it has marks, with a word beside it
unfoldable pub lab_says : View → List ℕ → Band → Pieces
lab_says v keys b = cond (ltb (length (carried v)) 1) [] (text_says (bytes "tiny") 219 (b.top + 9) ++ bytes "lab</text>\n" ∷ side_says v keys b)
