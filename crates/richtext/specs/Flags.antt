-- What a flag byte means: document 01, "Flags and config".
use Rattle.std.specs.Prelude.{Bool, cond, not, ℕ, ◌/◌, ◌%◌, eqb}
use Rattle.richtext.specs.Types.{reversed}
use Rattle.richtext.specs.declared.AnchorType.{AnchorType}
use Rattle.richtext.specs.declared.AnchorType.TheVariants.{Start, End}
use Rattle.richtext.specs.declared.ExpandType.{ExpandType}
use Rattle.richtext.specs.declared.ExpandType.TheVariants.{Before, After, Both, None}
use Rattle.richtext.specs.declared.TextStyleInfoFlag.{TextStyleInfoFlag}

-- the bit of this weight is set
abbrev pub bit : ℕ → ℕ → Bool
bit weight byte = eqb (byte / weight % 2) 1

-- bit 0x02: the style grows before
abbrev pub expands_before : ℕ → Bool
expands_before byte = bit 0x02 byte

-- bit 0x04: the style grows after
abbrev pub expands_after : ℕ → Bool
expands_after byte = bit 0x04 byte

-- the type is read from these two bits alone, so any byte has one
abbrev pub type_of : ℕ → ExpandType
type_of byte = cond (expands_before byte) (cond (expands_after byte) Both Before) (cond (expands_after byte) After None)

-- a new style's byte is alive, 0x80, with the bits of its type
abbrev pub new_byte : ExpandType → ℕ
new_byte None = 0x80
new_byte Before = 0x82
new_byte After = 0x84
new_byte Both = 0x86

-- text goes before a start anchor exactly when bit 0x02 is clear, before an end anchor exactly when 0x04 is set
abbrev pub before_at : AnchorType → ℕ → Bool
before_at Start byte = not (expands_before byte)
before_at End byte = expands_after byte

-- the byte that takes a style away is a new one, of the reversed type
abbrev pub deleted_byte : ℕ → ℕ
deleted_byte byte = new_byte (reversed (type_of byte))

-- the flag that carries a byte
abbrev pub flag_of : ℕ → TextStyleInfoFlag
flag_of byte = record { «data» = byte }
