-- Closed examples of `specs/`, from document 01's "Flags and config". Assumes nothing.
use mathlib.Core.Path.{◌≡◌, refl}
use mathlib.Core.Bool.{true}
use mathlib.Core.List.{List, [], ◌∷◌, ◌++◌}
use Rattle.std.specs.Prelude.{Option}
use Prim.Native.Nat.{ℕ}
use lib.ListN.{replicate}
use Rattle.text.specs.Bytes.{bytes, up_to, holds, starts_of, same_of}
use Rattle.richtext.specs.Flags.{flag_of}
use Rattle.richtext.specs.declared.ExpandType.TheVariants.{Before, After, Both, None}
use Rattle.config.specs.Names.{cut}
use Rattle.config.specs.Table.{Table, known, find, entered, once, refuses, with_entry, with_default, insert_number, default_number}
use Rattle.config.specs.BuiltIn.{growing, built_ins, built_in}
use Rattle.config.specs.Answers.{get_says, flag_says, unmark_says}

-- comment:17, and a name of n bytes x
comment17 : List ℕ
comment17 = bytes "comment:17"

xs : ℕ → List ℕ
xs n = replicate n 120

-- the cut is at the first colon, and nothing may stand before it
cut_two : cut (bytes "a:b:") ≡ bytes "a"
unfolding up_to
cut_two = refl

cut_front : cut (bytes ":x") ≡ []
unfolding up_to
cut_front = refl

-- comment:17 is looked up as comment, with the flag's type reversed to unmark
flag_17 : flag_says comment17 built_in ≡ record { refusal = 0; value = Option.Some (flag_of 128) }
unfolding comment17 up_to find starts_of same_of
flag_17 = refl

unmark_17 : unmark_says comment17 built_in ≡ record { refusal = 0; value = Option.Some (flag_of 134) }
unfolding comment17 up_to find starts_of same_of
unmark_17 = refl

-- get takes it whole: no entry and no default, or the default
get_17 : get_says comment17 built_in ≡ record { refusal = 0; value = Option.None }
unfolding comment17 find starts_of same_of
get_17 = refl

get_17_default : get_says comment17 (with_default (Option.Some (record { expand = Before })) built_in) ≡ record { refusal = 0; value = Option.Some (record { expand = Before }) }
unfolding comment17 find starts_of same_of
get_17_default = refl

-- 32 bytes are a name, 33 are refused, also where the cut would leave fewer
get_32 : get_says (xs 32) built_in ≡ record { refusal = 0; value = Option.None }
unfolding xs find starts_of same_of
get_32 = refl

flag_33 : flag_says (bytes "comment:" ++ xs 25) built_in ≡ record { refusal = 19; value = Option.None }
unfolding xs
flag_33 = refl

-- a known name is replaced where it stands, a new one comes last
bold_alone : Table
bold_alone = record { entries = growing "bold" After ∷ []; default = Option.None }

replaced : with_entry (bytes "bold") (record { expand = Both }) bold_alone ≡ record { entries = growing "bold" Both ∷ []; default = Option.None }
unfolding bold_alone holds known entered starts_of same_of
replaced = refl

appended : with_entry (bytes "link") (record { expand = None }) bold_alone ≡ record { entries = growing "bold" After ∷ growing "link" None ∷ []; default = Option.None }
unfolding bold_alone holds known entered starts_of same_of
appended = refl

-- a name with a colon is refused
colon : refuses comment17 built_in ≡ true
unfolding comment17 holds known starts_of same_of
colon = refl

-- a table from before change request 13 keeps its entry until that is replaced: Before is answered, and its reverse is Before
before : Table
before = record { entries = growing "old" Before ∷ []; default = Option.None }

kept_before : (get_says (bytes "old") before ≡ record { refusal = 0; value = Option.Some (record { expand = Before }) })
    × (unmark_says (bytes "old") before ≡ record { refusal = 0; value = Option.Some (flag_of 0x82) })
unfolding before up_to find starts_of same_of
kept_before = (refl, refl)

-- 18 for the retired type, also where it would replace itself, and 19 before it
retired_18 : (insert_number (bytes "old") (record { expand = Before }) before ≡ 18) × (insert_number (bytes "old") (record { expand = After }) before ≡ 0)
    × (insert_number comment17 (record { expand = Before }) before ≡ 19) × (default_number (record { expand = Before }) ≡ 18)
unfolding before comment17 holds known starts_of same_of
retired_18 = (refl, refl, refl, refl)

-- each of the built-in names stands once
seven : once built_ins ≡ true
unfolding once known starts_of same_of
seven = refl
