-- What is told is told of the answer: of a refused call the words of the number that it was refused with, of a malformed line what came.
use Rattle.std.specs.Prelude.{Some}
use mathlib.Core.Path.{◌≡◌, refl, sym, ap, ◌∙◌}
use mathlib.Core.Bool.{Bool, true, false, cond}
use mathlib.Core.List.{List, [], ◌∷◌, ◌++◌}
use Prim.Native.Nat.{ℕ, zero, suc, ◌+◌, ◌/◌, ◌%◌, ◌^◌, ◌≤◌, ◌<◌}
use native.Mathlib.Decide.{dec_lt}
use native.Mathlib.Omega.{arith}
use lib.Dec.{ltb}
use lib.ListN.{length, take, drop, length-append}
use borrow.Author.Tests.{lt-ltb, le-ltb, le-leb}
use Rattle.io.specs.Digits.{hex_digit_ascii, last_digits}
use Rattle.text.specs.Bytes.{bytes, up_to, starts_of}
use Rattle.text.specs.Number.{decimal_of, decimal_text, places_from, put}
use Rattle.text.proofs.Finding.{front_here, front_past}
use Rattle.text.proofs.Laws.{digits_front, decimal_back}
use Rattle.text.proofs.Putting.{take_put}
use Rattle.script.specs.Writing.{field_text, free_at}
use Rattle.script.specs.Reading.{line_of}
use Rattle.script.specs.Lines.{State, counted_of, grown_of}
use Rattle.answers.specs.Waiting.{Waiting, waiting, piece_room, with, with_all, Short, Adds, front}
use Rattle.answers.specs.Replies.{line_says, refused_says}
use Rattle.explain.specs.Told.{told_number, refusal_by, refusal_text, refusal_told, bad_told, told_of}
use Rattle.explain.proofs.Telling.{some_number, told_refused, told_bad}

-- ---- The answer is what was put where nothing waited
front_by : (d t : List ℕ) (k : ℕ) → k ≡ 0 → length t ≤ length d → take (k + length t) (put d k t) ≡ t
front_by d t k e h = take_put d k t (omega (arith, e, h)) ∙ ap (λ (i : ℕ). take i d ++ t) e

first_place : (d : List ℕ) → piece_room ≤ length d → free_at piece_room 0 d ≡ 0
first_place d room = rw (le-leb (0 + piece_room) (length d) (omega (arith, room)))

pub one_line : {d out : List ℕ} {after : ℕ} (name : List ℕ) (n : ℕ) → piece_room ≤ length d → Adds d 0 (line_says name n) after out → take after out ≡ field_text name n
unfolding with_all with Short
one_line {d} name n room x =
    ap front x.is ∙ front_by d (field_text name n) (free_at piece_room 0 d) (first_place d room) (omega (arith, room, x.short.0))

-- ---- The number in it
-- no digit is a newline
no_newline : (d : ℕ) → hex_digit_ascii d ≡ 10 → ⊥
no_newline d e =
    elim (dec_lt d 10) [
      | yes k ↦ omega (arith, sym (ap (λ (b : Bool). cond b (48 + d) (87 + d)) (lt-ltb d 10 k)) ∙ e)
      | no k ↦ omega (arith, sym (ap (λ (b : Bool). cond b (48 + d) (87 + d)) (le-ltb d 10 (omega arith))) ∙ e)
    ]

digits_before : (k n : ℕ) → up_to 10 (last_digits 10 k n ++ 10 ∷ []) ≡ last_digits 10 k n
digits_before zero n = front_here 10 10 [] refl
digits_before (suc k) n =
    let g = hex_digit_ascii (n / 10 ^ k % 10) in
    ap (λ (l : List ℕ). up_to 10 (l ++ 10 ∷ [])) (digits_front 10 k n)
    ∙ front_past 10 g (last_digits 10 k n ++ 10 ∷ []) (no_newline (n / 10 ^ k % 10))
    ∙ ap (λ (l : List ℕ). g ∷ l) (digits_before k n)
    ∙ sym (digits_front 10 k n)

decimal_before : (n : ℕ) → up_to 10 (decimal_text n ++ 10 ∷ []) ≡ decimal_text n
unfolding decimal_text
decimal_before n = digits_before (places_from 19 n) n

pub number_told : (n : ℕ) → n < 2 ^ 64 → told_number (field_text (bytes "refused=") n) ≡ Some n
number_told n h =
    sym (some_number (field_text (bytes "refused=") n) (omega (arith, length-append (bytes "refused=" ++ decimal_text n) (bytes "\n"), length-append (bytes "refused=") (decimal_text n))))
    ∙ ap decimal_of (decimal_before n)
    ∙ decimal_back n h

-- ---- What is told
begins_refused : (n : ℕ) → starts_of (field_text (bytes "refused=") n) (bytes "refused=") ≡ true
unfolding starts_of
begins_refused n = refl

begins_malformed : (n : ℕ) → starts_of (field_text (bytes "malformed=") n) (bytes "malformed=") ≡ true
unfolding starts_of
begins_malformed n = refl

not_refused : (n : ℕ) → starts_of (field_text (bytes "malformed=") n) (bytes "refused=") ≡ false
unfolding starts_of
not_refused n = refl

module _ (s : State) (input : List ℕ) {d out : List ℕ} {after : ℕ} (n : ℕ) (room : piece_room ≤ length d) where
  -- of a refused call: its line, its op and tank, and the words of this number
  pub refusal_exactly : n < 2 ^ 64 → Adds d 0 (refused_says n) after out → told_of s input (take after out) ≡ refusal_text (counted_of s.newlines) (line_of s.call (grown_of s.held input)).call n
  unfolding refusal_told
  refusal_exactly h x =
      ap (told_of s input) (one_line (bytes "refused=") n room x)
      ∙ sym (told_refused s input (field_text (bytes "refused=") n) (begins_refused n))
      ∙ ap (refusal_by (counted_of s.newlines) (line_of s.call (grown_of s.held input)).call) (number_told n h)

  -- of a line at which the run ends
  pub bad_exactly : Adds d 0 (line_says (bytes "malformed=") n) after out → told_of s input (take after out) ≡ bad_told s input
  bad_exactly x =
      ap (told_of s input) (one_line (bytes "malformed=") n room x)
      ∙ sym (told_bad s input (field_text (bytes "malformed=") n) (not_refused n) (begins_malformed n))
