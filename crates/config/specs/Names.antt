-- Names as byte strings: how long one may be, and its part before the first colon.
use Rattle.std.specs.Prelude.{Bool, List, ℕ, ltb, length, replicate}
use Rattle.text.specs.Bytes.{up_to, holds}

-- over 32 bytes, measured on the name as it is handed in
abbrev pub too_long : List ℕ → Bool
too_long name = ltb 32 (length name)

-- a colon, byte 58, stands somewhere in the name
abbrev pub holds_colon : List ℕ → Bool
holds_colon = holds 58

-- what stands before the first colon: the whole name where there is none
abbrev pub cut : List ℕ → List ℕ
cut = up_to 58

-- what fills up the place of a name
abbrev pub zeros : ℕ → List ℕ
zeros n = replicate n 0
