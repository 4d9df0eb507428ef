-- What `show` prints of the eight tanks, in its order (docs/KEEPER.md, "show"): every byte from the place in the log, the house and the names.
use Rattle.std.specs.Prelude.{ℕ, zero, suc, ◌+◌, ◌-◌, ◌/◌, ◌≡◌, Bool, cond, List, [], ◌∷◌, ◌++◌, ltb, eqb, length, get_or}
use Rattle.text.specs.Bytes.{bytes}
use Rattle.text.specs.Number.{decimal_text}
use Rattle.styles.specs.declared.Mark.{Mark}
use Rattle.styles.specs.declared.Party.TheVariants.{Plant, Lab}
use Rattle.tank.specs.Rules.{View, runs_held, carried, marks_of}
use Rattle.tanks.specs.declared.Setting.{Setting}
use Rattle.tanks.specs.Settings.{no_setting, claims}
use Rattle.tanks.specs.House.{House, tank_at, held, shown_at}
use Rattle.strip.specs.Strip.{strip}
use Rattle.answers.specs.Waiting.{Pieces}
use Rattle.key_names.specs.Names.{Named, key_text, key_named}
use Rattle.std.specs.Prelude.{Some}
use Rattle.key_legend.specs.Keys.{first_key, next_key, lowest_keys}
use Rattle.key_legend.specs.Letters.{held_first, letters_of, strip_keys}
use Rattle.pen.specs.Pen.{right_text, between_says}

-- what is said of n tanks or places from the t-th on, one after another
unfoldable pub each_from : (ℕ → Pieces) → ℕ → ℕ → Pieces
each_from says zero t = []
each_from says (suc n) t = says t ++ each_from says n (suc t)

-- of all eight
abbrev pub of_eight : (ℕ → Pieces) → Pieces
of_eight says = each_from says 8 0

-- ---- The top line
-- what the pool has left: 512 less the sum over tanks of the larger of runs and share
abbrev pub left_in : House → ℕ
left_in h = 512 - claims h.settings (held h) 8

-- up to which byte the log is read, and what the pool has left
unfoldable pub top_says : ℕ → House → Pieces
top_says place h =
    between_says (bytes "The log is read up to byte ") place (bytes ". The pool has ")
    ++ (decimal_text (left_in h) ∷ bytes " of 512 runs left.\n\n" ∷ [])

-- ---- The table
-- a number at the right end of its column
abbrev pub column : ℕ → ℕ → List ℕ
column width n = right_text width (decimal_text n)

-- touched or not
abbrev pub touched_word : Bool → List ℕ
touched_word b = cond b (bytes "yes") (bytes "no")

-- a tank's number, its share and limit, and the runs that it holds
abbrev pub row_front : ℕ → Setting → ℕ → Pieces
row_front t x runs = column 4 t ∷ column 8 x.share ∷ column 8 x.limit ∷ column 8 runs ∷ []

-- how many marks each party has in it, the plant first
abbrev pub row_marks : List Mark → Pieces
row_marks ms = column 14 (marks_of Plant ms) ∷ column 12 (marks_of Lab ms) ∷ []

-- whether it is touched, and its length
abbrev pub row_end : Bool → ℕ → Pieces
row_end touched len = right_text 10 (touched_word touched) ∷ column 22 len ∷ bytes "\n" ∷ []

-- the row of a tank
abbrev pub row_says : ℕ → Setting → View → Pieces
row_says t x v = row_front t x (runs_held v) ++ row_marks (carried v) ++ row_end v.touched v.length

-- the row of tank t of a house
abbrev pub row_at : House → ℕ → Pieces
row_at h t = row_says t (get_or h.settings t no_setting) (tank_at h t)

-- what stands over the columns
abbrev pub table_head : List ℕ
table_head = bytes "tank   share   limit    runs   plant marks   lab marks   touched                length\n"

-- the head of the table, and eight rows
unfoldable pub table_says : House → Pieces
table_says h = table_head ∷ of_eight (row_at h)

-- two tanks with their settings have every number of a row in common
pub record SameRow (x : Setting) (v : View) (y : Setting) (w : View) : Type 0 where
  pub share : x.share ≡ y.share
  pub limit : x.limit ≡ y.limit
  pub runs : runs_held v ≡ runs_held w
  pub plant : marks_of Plant (carried v) ≡ marks_of Plant (carried w)
  pub lab : marks_of Lab (carried v) ≡ marks_of Lab (carried w)
  pub touched : v.touched ≡ w.touched
  pub length : v.length ≡ w.length

-- ---- The strips
-- the end of the last of the first n positions that carries a mark; 0 where none does
unfoldable pub marked_to : (ℕ → List Mark) → ℕ → ℕ
marked_to at zero = 0
marked_to at (suc p) = cond (eqb (length (at p)) 0) (marked_to at p) (suc p)

-- the end of the last position of all that carries a mark
abbrev pub marked_end : View → ℕ
marked_end v = marked_to v.at v.length

-- how many positions a cell has: the fewest with which 96 cells reach up to the end
abbrev pub cell_of : ℕ → ℕ
cell_of end = (end - 1) / 96 + 1

-- 96 cells from position 0 on, and how many positions a cell has
abbrev pub cells_say : View → List ℕ → List ℕ → ℕ → Pieces
cells_say v keys letters k =
    bytes "  |" ∷ strip v keys letters 0 k ∷ between_says (bytes "| ") k (bytes "\n")

-- a tank's number and its strip up to the end of its marked part, or that it has no marks
abbrev pub strip_says : ℕ → View → List ℕ → List ℕ → Pieces
strip_says t v keys letters =
    column 4 t
    ∷ cond (ltb (marked_end v) 1)
    (bytes "  |no marks of the plant's\n" ∷ [])
    (cells_say v keys letters (cell_of (marked_end v)))

-- the strip of tank t, of what the plant is shown of it
abbrev pub strip_of : House → List ℕ → List ℕ → ℕ → Pieces
strip_of h keys letters t = strip_says t (shown_at h Plant t) keys letters

-- the head of the strips, and eight of them
unfoldable pub strips_say : House → List ℕ → List ℕ → Pieces
strips_say h keys letters =
    bytes "\ntank   the plant's marks from position 0 to the end of the marked part, and how many positions a cell has\n"
    ∷ of_eight (strip_of h keys letters)

-- ---- The legend
-- a number from 65536 on stands for no key
abbrev pub is_no_key : ℕ → Bool
is_no_key key = ltb 65535 key

-- four entries to a line: the first of a line has three blanks more in front
abbrev pub line_begins : ℕ → Pieces
line_begins i = cond (eqb i 0) (bytes "   " ∷ []) (cond (eqb i 4) (bytes "\n   " ∷ []) [])

-- a letter and what its key is called
abbrev pub entry_text : List Named → ℕ → ℕ → List ℕ
entry_text names key letter = bytes "   " ++ (letter ∷ bytes " ") ++ key_text names key

-- the entry at a place: nothing where there is no key
abbrev pub entry_says : List Named → List ℕ → List ℕ → ℕ → Pieces
entry_says names keys letters i =
    cond (is_no_key (get_or keys i 0)) [] (line_begins i ++ (entry_text names (get_or keys i 0) (get_or letters i 0) ∷ []))

-- the end of the last line, and whether there are keys that the legend leaves out
abbrev pub end_says : Bool → Pieces
end_says more = bytes "\n" ∷ cond more (bytes "      Higher keys are not in the strips.\n" ∷ []) []

-- the letters with their keys, where there is a key
unfoldable pub legend_says : List Named → List ℕ → List ℕ → Bool → Pieces
legend_says names keys letters more =
    cond (is_no_key (get_or keys 0 0)) []
    (of_eight (entry_says names keys letters) ++ end_says more)

-- ---- All of it
-- the eight lowest keys of the plant's marks
abbrev pub plant_keys : House → List ℕ
plant_keys h = lowest_keys (Some Plant) h 8

-- those in the order in which they are drawn: `hold` first
abbrev pub drawn_keys : House → List Named → List ℕ
drawn_keys h names = held_first (key_named names (bytes "hold")) (plant_keys h)

-- the plant's marks have a higher key than this one
abbrev pub more_behind : House → ℕ → Bool
more_behind h last = ltb (first_key (Some Plant) (next_key last) h) 65536

-- the strips by these keys, and their legend
abbrev pub bottom_says : House → List Named → List ℕ → Bool → Pieces
bottom_says h names keys more =
    strips_say h (strip_keys keys) (letters_of names keys) ++ legend_says names keys (letters_of names keys) more

-- what is printed: the top line, the table, the strips with their legend
unfoldable pub glance_of : ℕ → House → List Named → Pieces
glance_of place h names =
    top_says place h
    ++ table_says h
    ++ bottom_says h names (drawn_keys h names) (more_behind h (get_or (plant_keys h) 7 0))
