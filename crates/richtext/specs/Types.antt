-- The four expand types: on which sides a style grows, the words that name them, and the type that takes a style away.
use Rattle.std.specs.Prelude.{Bool, true, false, cond, List, ℕ, Option}
use Rattle.text.specs.Bytes.{bytes, same_of}
use Rattle.richtext.specs.declared.ExpandType.{ExpandType}
use Rattle.richtext.specs.declared.ExpandType.TheVariants.{Before, After, Both, None}

-- text inserted before the style takes it over
abbrev pub grows_before : ExpandType → Bool
grows_before Before = true
grows_before After = false
grows_before Both = true
grows_before None = false

-- text inserted after the style takes it over
abbrev pub grows_after : ExpandType → Bool
grows_after Before = false
grows_after After = true
grows_after Both = true
grows_after None = false

-- a type that no new mark and no entry of a config may have; marks and entries that have it keep it
abbrev pub retired : ExpandType → Bool
retired Before = true
retired After = false
retired Both = false
retired None = false

-- Both and None change places; Before and After stay
abbrev pub reversed : ExpandType → ExpandType
reversed Before = Before
reversed After = After
reversed Both = None
reversed None = Both

-- the word for each type
abbrev pub word : ExpandType → List ℕ
word Before = bytes "before"
word After = bytes "after"
word Both = bytes "both"
word None = bytes "none"

-- exactly these four, whole; anything else, of any length, names none of the types
abbrev pub named : List ℕ → Option ExpandType
named s =
    cond (same_of s (word Before)) (Option.Some Before)
    (cond (same_of s (word After)) (Option.Some After)
    (cond (same_of s (word Both)) (Option.Some Both)
    (cond (same_of s (word None)) (Option.Some None) Option.None)))
