-- What a config means: its names with their styles, in the order of their first insertion, and the default.
-- Document 01, "Flags and config", in its order.
use Rattle.std.specs.Prelude.{Bool, true, false, cond, ◌&&◌, ◌||◌, not, List, [], ◌∷◌, ℕ, suc, leb, length, Option}
use Rattle.std.specs.Option.{option_or}
use Rattle.text.specs.Bytes.{same_of}
use Rattle.richtext.specs.Types.{retired}
use Rattle.config.specs.Names.{too_long, holds_colon}
use Rattle.config.specs.declared.StyleConfig.{StyleConfig}

-- a name and its style
pub record Named : Type 0 where
  pub name : List ℕ
  pub style : StyleConfig

-- the entries and the default, where there is one
pub record Table : Type 0 where
  pub entries : List Named
  pub default : Option StyleConfig

-- no entry and no default
abbrev pub empty_table : Table
empty_table = record { entries = []; default = Option.None }

-- a name among the entries
unfoldable pub known : List ℕ → List Named → Bool
known k [] = false
known k (x ∷ xs) = same_of x.name k || known k xs

-- the style of a name among the entries
unfoldable pub find : List ℕ → List Named → Option StyleConfig
find k [] = Option.None
find k (x ∷ xs) = cond (same_of x.name k) (Option.Some x.style) (find k xs)

-- how many entries stand before the name's: all of them where it is not known
unfoldable pub place : List ℕ → List Named → ℕ
place k [] = 0
place k (x ∷ xs) = cond (same_of x.name k) 0 (suc (place k xs))

-- a known name's style is replaced where it stands; a new name comes last
unfoldable pub entered : List ℕ → StyleConfig → List Named → List Named
entered k s [] = record { name = k; style = s } ∷ []
entered k s (x ∷ xs) = cond (same_of x.name k) (record { name = k; style = s } ∷ xs) (x ∷ entered k s xs)

-- each name once
unfoldable pub once : List Named → Bool
once [] = true
once (x ∷ xs) = not (known x.name xs) && once xs

-- refused: a name over 32 bytes, a name that holds a colon, a new name into 32 entries
abbrev pub refuses : List ℕ → Table → Bool
refuses k t = too_long k || (holds_colon k || (not (known k t.entries) && leb 32 (length t.entries)))

-- the table with an entry: as it was where that is refused
abbrev pub with_entry : List ℕ → StyleConfig → Table → Table
with_entry k s t = cond (refuses k t) t (record { entries = entered k s t.entries; default = t.default })

-- ---- Before is retired
-- the style of a retired type
abbrev pub retired_style : StyleConfig → Bool
retired_style s = retired s.expand

-- an insertion's number: 19, then 18 for a retired type, 0 for neither
abbrev pub insert_number : List ℕ → StyleConfig → Table → ℕ
insert_number k s t = cond (refuses k t) 19 (cond (retired_style s) 18 0)

-- the table after an insertion: as it was where that is refused
abbrev pub after_insert : List ℕ → StyleConfig → Table → Table
after_insert k s t = cond (retired_style s) t (with_entry k s t)

-- with another default, or none
abbrev pub with_default : Option StyleConfig → Table → Table
with_default d t = record { entries = t.entries; default = d }

-- a new default's number: 18 for a retired type
abbrev pub default_number : StyleConfig → ℕ
default_number s = cond (retired_style s) 18 0

-- the table after a new default: as it was where that is refused
abbrev pub after_default : StyleConfig → Table → Table
after_default s t = cond (retired_style s) t (with_default (Option.Some s) t)

-- the style that a name has: its entry's, else the default
abbrev pub style_for : List ℕ → Table → Option StyleConfig
style_for k t = option_or (find k t.entries) t.default
