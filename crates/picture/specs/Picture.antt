-- docs/KEEPER.md, "picture": the legend, and the whole picture of a house and the names of its keys.
use Rattle.std.specs.Prelude.{Bool, cond, List, [], ◌∷◌, ◌++◌, ℕ, ◌+◌, ◌*◌, ◌/◌, ◌%◌, ltb, get_or}
use Rattle.answers.specs.Waiting.{Pieces}
use Rattle.key_names.specs.Names.{Named, key_text, key_named}
use Rattle.std.specs.Prelude.{None}
use Rattle.key_legend.specs.Keys.{first_key, next_key, lowest_keys}
use Rattle.runs.specs.Positions.{sum_below}
use Rattle.tanks.specs.House.{House}
use Rattle.text.specs.Bytes.{bytes}
use Rattle.picture.specs.Elements.{each_from, rect_says, text_says, colour_says}
use Rattle.picture.specs.Heading.{heading_says}
use Rattle.picture.specs.Bands.{tanks_say}

-- ---- The legend, four entries to a line
-- the patch of the i-th entry, up to its class
unfoldable pub patch_says : ℕ → Pieces
patch_says i = rect_says (30 + i % 4 * 285) (842 + i / 4 * 26) 22 14

-- its words, up to their first letter
unfoldable pub caption_says : ℕ → Pieces
caption_says i = text_says (bytes "key") (60 + i % 4 * 285) (854 + i / 4 * 26)

-- the entry of the i-th key that has a colour: its colour and its name; 65536 is no key
unfoldable pub entry_says : List Named → ℕ → ℕ → Pieces
entry_says names i key = cond (ltb 65535 key) [] (patch_says i ++ (colour_says i ++ (caption_says i ++ key_text names key ∷ bytes "</text>\n" ∷ [])))

-- those of twelve keys
unfoldable pub entries_say : List Named → List ℕ → Pieces
entries_say names keys = each_from (λ i. entry_says names i (get_or keys i 0)) 0 12

-- how many of the first n are keys
abbrev pub keys_there : List ℕ → ℕ → ℕ
keys_there keys n = sum_below (λ i. cond (ltb (get_or keys i 0) 65536) 1 0) n

-- the entry of the higher keys, where there are some, in grey
unfoldable pub others_say : ℕ → Bool → Pieces
others_say i some = cond some (patch_says i ++ (colour_says 12 ++ (caption_says i ++ bytes "all other keys</text>\n" ∷ []))) []

-- the entry of what is held, where a key has that name
unfoldable pub held_says : ℕ → ℕ → Pieces
held_says i hold =
    cond (ltb 65535 hold) [] (patch_says i ++ (bytes " class='frame'/>\n" ∷ (patch_says i ++ (bytes " class='held'/>\n" ∷ (caption_says i ++ bytes "held: no plan may take it</text>\n" ∷ [])))))

-- all entries, one behind the other
unfoldable pub legend_says : List Named → List ℕ → Bool → ℕ → Pieces
legend_says names keys some hold =
    entries_say names keys ++ (others_say (keys_there keys 12) some ++ held_says (keys_there keys 12 + cond some 1 0) hold)

-- ---- The whole
-- the twelve lowest keys that occur
abbrev pub coloured_keys : House → List ℕ
coloured_keys h = lowest_keys None h 12

-- there are higher ones
abbrev pub others_in : House → Bool
others_in h = ltb (first_key None (next_key (get_or (coloured_keys h) 11 0)) h) 65536

-- the key that means held, 65536 for none
abbrev pub hold_key : List Named → ℕ
hold_key names = key_named names (bytes "hold")

-- the picture
unfoldable pub picture_of : House → List Named → Pieces
picture_of h names =
    heading_says
    ++ (tanks_say h (coloured_keys h) (hold_key names) ++ (legend_says names (coloured_keys h) (others_in h) (hold_key names) ++ bytes "</svg>\n" ∷ []))
