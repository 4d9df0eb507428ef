-- Closed examples of `specs/`, from document 01's "Flags and config". Assumes nothing.
use mathlib.Core.Path.{◌≡◌, refl}
use mathlib.Core.Bool.{true, false}
use mathlib.Core.List.{[], ◌∷◌}
use Rattle.text.specs.Bytes.{starts_of, same_of}
use Rattle.richtext.specs.Types.{named}
use Rattle.richtext.specs.Flags.{type_of, before_at, deleted_byte}
use Rattle.richtext.specs.declared.AnchorType.TheVariants.{Start, End}
use Rattle.richtext.specs.declared.ExpandType.TheVariants.{Before, Both, None}
use Rattle.std.specs.Prelude.{Option}

-- any byte has a type, by bits 0x02 and 0x04 alone
type_0x41 : type_of 65 ≡ None
type_0x41 = refl

type_0xff : type_of 255 ≡ Both
type_0xff = refl

type_0x7b : type_of 123 ≡ Before
type_0x7b = refl

-- to_delete of 0x04, of 0x41 and of 0x06
deleted_0x04 : deleted_byte 4 ≡ 132
deleted_0x04 = refl

deleted_0x41 : deleted_byte 65 ≡ 134
deleted_0x41 = refl

deleted_0x06 : deleted_byte 6 ≡ 128
deleted_0x06 = refl

-- at an anchor of a style that grows after alone
start_0x84 : before_at Start 132 ≡ true
start_0x84 = refl

end_0x84 : before_at End 132 ≡ true
end_0x84 = refl

end_0x82 : before_at End 130 ≡ false
end_0x82 = refl

-- no bytes, "Both", "bot" and "bothy" name none of the types
named_empty : named [] ≡ Option.None
unfolding starts_of same_of
named_empty = refl

named_capital : named (66 ∷ 111 ∷ 116 ∷ 104 ∷ []) ≡ Option.None
unfolding starts_of same_of
named_capital = refl

named_short : named (98 ∷ 111 ∷ 116 ∷ []) ≡ Option.None
unfolding starts_of same_of
named_short = refl

named_long : named (98 ∷ 111 ∷ 116 ∷ 104 ∷ 121 ∷ []) ≡ Option.None
unfolding starts_of same_of
named_long = refl
