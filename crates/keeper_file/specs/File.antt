-- The keeper's file: a line that says up to which byte a log has been read, and behind it the saved text of the tanks as they were then.
use Rattle.std.specs.Prelude.{◌≡◌, Bool, not, cond, List, [], ◌++◌, ℕ, ◌+◌, ◌-◌, ◌^◌, ◌≤◌, min, length, take}
use Rattle.text.specs.Bytes.{bytes, same_of}
use Rattle.text_lines.specs.Lines.{Got, bad, got, then, number_line, number_text}
use Rattle.script.specs.Lines.{counted_of}
use Rattle.runs.specs.Stretches.{in_front}
use Rattle.lists.specs.Lists.{list_refusal, unless_refused}
use Rattle.tanks.specs.declared.Tanks.{Tanks}
use Rattle.tanks.specs.House.{House}
use Rattle.tanks.specs.Pool.{Sound, meaning}
use Rattle.saved.specs.Saying.{Said, newest, saying, house_in}
use Rattle.saved.specs.Writes.{written}
use Rattle.day_log.specs.Groups.{TakesGroups}
use Rattle.keeper_file.specs.declared.Back.{Back}
use Rattle.keeper_file.specs.declared.Fed.{Fed}
use Rattle.keeper_file.specs.declared.Renewed.{Renewed}

-- how the first line begins
abbrev pub place_name : List ℕ
place_name = bytes "read="

-- the line of a place
abbrev pub place_text : ℕ → List ℕ
place_text place = number_text place_name place

-- the text of a place and a house
abbrev pub file_of : ℕ → House → List ℕ
file_of place h = place_text place ++ written h

-- what a file says
pub record Filed : Type 0 where
  pub place : ℕ
  pub house : House

-- behind the line of a place, what a saved text says: its lines count one more
unfoldable pub in_file : ℕ → Got Said → Got Filed
in_file place (bad n) = bad (counted_of n)
in_file place (got s n text) = got (record { place = place; house = house_in s }) (counted_of n) text

-- what a text says, or the first of its lines that is wrong, counted from 1 in the file
unfoldable pub file_says : List ℕ → Got Filed
unfolding in_file
file_says text = then (number_line place_name 0 (2 ^ 64 - 1) 0 text) λ place n rest. in_file place (saying newest rest)

-- ---- Writing
-- 11 where a text is longer than the buffer
abbrev pub room_number : ℕ → List ℕ → ℕ
room_number room text = list_refusal 0 room (length text)

-- of the file of a place and a house
abbrev pub file_number : ℕ → ℕ → House → ℕ
file_number room place h = room_number room (file_of place h)

-- no file that is written is longer: 26 bytes of its first line, and the longest saved text
abbrev pub most_bytes : ℕ
most_bytes = 117956

-- the file of a place and a house says both again, to the last line
pub record FiledAgain (place : ℕ) (h : House) : Type 0 where
  pub lines : ℕ
  pub is : file_says (file_of place h) ≡ got (record { place = place; house = h }) lines []

-- ---- Reading back
-- 13 beside a wrong line
abbrev pub back_number : Got Filed → ℕ
back_number (bad n) = 13
back_number (got f n text) = 0

-- the first wrong line, 0 for none
abbrev pub back_line : Got Filed → ℕ
back_line (bad n) = n
back_line (got f n text) = 0

-- the place, 0 beside a wrong line
abbrev pub back_place : Got Filed → ℕ
back_place (bad n) = 0
back_place (got f n text) = f.place

-- the house that the text says, or the one that there was
abbrev pub back_house : House → Got Filed → House
back_house h (bad n) = h
back_house h (got f n text) = f.house

-- what reading back hands back, by what the text says
pub record ReadsBack (s : Tanks) (text : List ℕ) (r : Back) : Type 0 where
  pub number_is : r.number ≡ back_number (file_says text)
  pub line_is : r.line ≡ back_line (file_says text)
  pub place_is : r.place ≡ back_place (file_says text)
  pub is : meaning r.tanks ≡ back_house (meaning s) (file_says text)
  pub sound : Sound r.tanks

-- ---- From read to read
-- a place so many bytes further on; 64 bits count no further than they go
abbrev pub further_by : ℕ → ℕ → ℕ
further_by place more = min (2 ^ 64 - 1) (place + more)

-- a file is written where its text is another than the one that is kept
abbrev pub differs : List ℕ → List ℕ → Bool
differs kept next = not (same_of kept next)

-- ---- What is written, and when
-- the file of a place and a house is put to the front of a buffer, or nothing where that is too short (11), and it is to be written where it
-- differs from the text that is kept
pub record Renews (place : ℕ) (h : House) (kept : List ℕ) (buffer : List ℕ) (r : Renewed) (out : List ℕ) : Type 0 where
  pub number_is : r.number ≡ file_number (length buffer) place h
  pub count_is : r.count ≡ length (unless_refused r.number (file_of place h))
  pub text : out ≡ in_front (unless_refused r.number (file_of place h)) buffer
  pub inside : r.count ≤ length buffer
  pub again : r.number ≡ 0 → FiledAgain place h
  pub changed : r.number ≡ 0 → r.changed ≡ differs kept (file_of place h)

-- after a read of a log at a place: the whole groups at the front of what was read are taken, and what is to be written is the file of the place
-- behind the last of them and of the tanks that they leave
pub record Reads (s : Tanks) (place : ℕ) (bytes kept buffer : List ℕ) (r : Fed) (out : List ℕ) : Type 0 where
  pub groups : TakesGroups s bytes r.took
  pub place_is : r.place ≡ further_by place r.took.at
  pub renewed : Renews r.place (meaning r.took.tanks) kept buffer r.file out

-- the text that is kept then: the new one where it is to be written, else the one that is kept
abbrev pub kept_then : Renewed → List ℕ → List ℕ → List ℕ
kept_then r out kept = cond r.changed (take r.count out) kept
