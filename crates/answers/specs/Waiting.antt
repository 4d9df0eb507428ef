-- Output that waits to be written: a buffer, and how much of its front.
use Rattle.std.specs.Prelude.{◌≡◌, cond, ℕ, ◌+◌, ◌≤◌, leb, length, take}
use mathlib.Core.List.{List, [], ◌∷◌, ◌++◌, foldl}
use Rattle.text.specs.Number.{put}
use Rattle.script.specs.Writing.{free_at, most_written}

-- pieces of text: whole lines, or parts of a text that is handed out as it is
abbrev pub Pieces : Type 0
Pieces = List (List ℕ)

-- what waits is the front of the buffer, up to a place
pub record Waiting : Type 0 where
  pub buffer : List ℕ
  pub at : ℕ

-- so much of a buffer
abbrev pub waiting : List ℕ → ℕ → Waiting
waiting buffer at = record { buffer = buffer; at = at }

-- the most bytes that a piece may have: the seven lines of a mark take no more
abbrev pub piece_room : ℕ
piece_room = 192

-- one piece more: behind what waits, or, since there was no room for a piece, at the front of a buffer that has been written out, or over the last bytes of one that is held
unfoldable pub with : Waiting → List ℕ → Waiting
with w piece = waiting (put w.buffer (free_at piece_room w.at w.buffer) piece) (free_at piece_room w.at w.buffer + length piece)

-- pieces one after another
unfoldable pub with_all : Waiting → Pieces → Waiting
with_all = foldl with

-- none is longer than a piece may be
unfoldable pub Short : Pieces → Type 0
Short [] = Unit
Short (piece ∷ pieces) = (length piece ≤ piece_room) × Short pieces

-- pieces were put, none too long: from a buffer with so much waiting, to the buffer and the place afterwards
pub record Adds (buffer : List ℕ) (at : ℕ) (pieces : Pieces) (after : ℕ) (out : List ℕ) : Type 0 where
  pub is : waiting out after ≡ with_all (waiting buffer at) pieces
  pub short : Short pieces

-- ---- What is written out meanwhile
-- what waits
abbrev pub front : Waiting → List ℕ
front w = take w.at w.buffer

-- what goes out where there is no room: all that waits, and nothing of a buffer that is held
abbrev pub goes_out : Waiting → List ℕ
goes_out w = cond (leb (length w.buffer) most_written) (front w) []

-- what goes out, each time that there is no room for a piece
unfoldable pub sent : Waiting → Pieces → List ℕ
sent w [] = []
sent w (piece ∷ pieces) = cond (leb (w.at + piece_room) (length w.buffer)) [] (goes_out w) ++ sent (with w piece) pieces
