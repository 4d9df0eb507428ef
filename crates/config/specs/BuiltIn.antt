-- The table that a config starts from: document 01, "Built in".
use Rattle.std.specs.Prelude.{List, [], ◌∷◌, Option}
use Prim.Native.String.{String}
use Rattle.text.specs.Bytes.{bytes}
use Rattle.richtext.specs.declared.ExpandType.{ExpandType}
use Rattle.richtext.specs.declared.ExpandType.TheVariants.{After, None}
use Rattle.config.specs.Table.{Named, Table}

-- a name that grows so
abbrev pub growing : String → ExpandType → Named
growing name t = record { name = bytes name; style = record { expand = t } }

-- bold, italic and underline grow after; link, highlight, comment and code do not grow
abbrev pub built_ins : List Named
built_ins =
    growing "bold" After
    ∷ growing "italic" After
    ∷ growing "underline" After
    ∷ growing "link" None
    ∷ growing "highlight" None
    ∷ growing "comment" None
    ∷ growing "code" None
    ∷ []

-- these, and no default
abbrev pub built_in : Table
built_in = record { entries = built_ins; default = Option.None }
