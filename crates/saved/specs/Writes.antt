-- How a saved text comes into a lent buffer, and what writing it hands back.
use Rattle.std.specs.Prelude.{◌≡◌, Bool, true, List, [], ◌∷◌, ◌++◌, ℕ, zero, suc, ◌+◌, ◌^◌, ◌≤◌, ◌<◌, length}
use Rattle.std.specs.Float.{binary64}
use Rattle.std.specs.Float.Ieee.{fits}
use Rattle.std.specs.Int.Signed.{mag}
use Rattle.text.specs.Bytes.{bytes}
use Rattle.text_lines.specs.Lines.{got, word_text, number_text}
use Rattle.styles.specs.declared.Mark.{Mark}
use Rattle.styles.specs.declared.Value.{Value}
use Rattle.tank.specs.Rules.{carried}
use Rattle.lists.specs.Lists.{list_refusal}
use Rattle.tanks.specs.House.{House, tank_at}
use Rattle.saved.specs.Saved.{flag_of, party_name, house_text}
use Rattle.saved.specs.Saying.{Said, newest, saying, house_in}

-- a buffer with a text in it from a place on, as far as the buffer goes: one of no bytes measures the text
unfoldable pub laid : List ℕ → ℕ → List ℕ → List ℕ
laid [] at t = []
laid (x ∷ d) zero [] = x ∷ d
laid (x ∷ d) zero (c ∷ t) = c ∷ laid d zero t
laid (x ∷ d) (suc at) t = x ∷ laid d at t

-- a text of at most so many bytes stands in the buffer from a place on, as far as it goes, and r is the place behind all of it
pub record Lays (d : List ℕ) (at : ℕ) (t : List ℕ) (most : ℕ) (r : ℕ) (out : List ℕ) : Type 0 where
  pub place : r ≡ at + length t
  pub few : r ≤ at + most
  pub text : out ≡ laid d at t

-- the lines of a mark's identity, its party's in front
abbrev pub identity_text : Mark → List ℕ
identity_text m =
    word_text (bytes "party=") (party_name m.party)
    ++ number_text (bytes "key=") m.key
    ++ number_text (bytes "lamport=") m.lamport
    ++ number_text (bytes "peer=") m.peer

-- the lines of tank t in front of its marks: touched or not, its length, and how many marks
abbrev pub head_text : ℕ → Bool → ℕ → ℕ → List ℕ
head_text t touched len marks =
    number_text (bytes "tank=") t
    ++ number_text (bytes "touched=") (flag_of touched)
    ++ number_text (bytes "length=") len
    ++ number_text (bytes "marks=") marks

-- ---- Widths: what the types of a mark's fields hold. `mag` of a number is its size, and one less for a number below 0
-- a value that 64 bits hold
unfoldable pub FitsValue : Value → Type 0
FitsValue Value.Null = Unit {0}
FitsValue (Value.Flag b) = Unit {0}
FitsValue (Value.Whole z) = mag z < 2 ^ 63
FitsValue (Value.Decimal x) = fits binary64 x ≡ true

-- a mark whose fields have their widths, as every mark has that code holds
pub record FitsMark (m : Mark) : Type 0 where
  pub key : m.key < 2 ^ 16
  pub lamport : m.lamport < 2 ^ 32
  pub peer : m.peer < 2 ^ 64
  pub cnt : mag m.cnt < 2 ^ 31
  pub flags : m.flags < 256
  pub value : FitsValue m.value

-- each of some marks
unfoldable pub FitsMarks : List Mark → Type 0
FitsMarks [] = Unit {0}
FitsMarks (m ∷ ms) = FitsMark m × FitsMarks ms

-- each mark of a house's eight tanks
unfoldable pub FitsHouse : House → Type 0
unfolding FitsMarks
FitsHouse h = (t : ℕ) → t < 8 → FitsMarks (carried (tank_at h t))

-- ---- All of it
-- the text that is written: the newest version's
abbrev pub written : House → List ℕ
written h = house_text newest h

-- 11 where it is longer than the buffer
abbrev pub write_number : ℕ → House → ℕ
write_number room h = list_refusal 0 room (length (written h))

-- no text that is written is longer: 10 bytes of the version, 8 * 22 of the settings, 8 * (62 + 64 * 184) of heads and marks, 512 * 45 of runs
abbrev pub most_bytes : ℕ
most_bytes = 117930

-- the text of a house says that house again, to the last line
pub record SaidAgain (h : House) : Type 0 where
  pub said : Said
  pub lines : ℕ
  pub is : saying newest (written h) ≡ got said lines []
  pub means : house_in said ≡ h
