-- Lines out of bytes: the newline is searched, and what stands in front of it is kept, up to 65 bytes.
use mathlib.Core.Path.{◌≡◌, sym, ap, ap₂, ◌∙◌}
use mathlib.Core.Bool.{true, false}
use mathlib.Core.List.{List, ◌++◌}
use Prim.Native.Nat.{ℕ, ◌+◌, ◌-◌, ◌≤◌, ◌<◌, min}
use native.Mathlib.Decide.{dec_lt}
use native.Mathlib.Nat.{add-sub_cancel_left, min_comm}
use native.Mathlib.Omega.{arith}
use lib.ListN.{length, take, drop, length-take, length-drop, length-append}
use lib.Seq.{take_all, take-take, take-append-add, take-append_seam}
use borrow.Author.Tests.{lt-ltb, le-ltb}
use Rattle.text.specs.Number.{put}
use Rattle.text.proofs.Finding.{front_take, front_inside, held_by_length}
use Rattle.script.specs.declared.Cut.{Cut}
use Rattle.script.specs.declared.Line.{Line}
use Rattle.script.specs.Lines.{line_front, held_of, Keeps, holding, grown_of, past_line, cut_of}

-- ---- what is kept
pub take_min : {A : Type 0} (n m : ℕ) (l : List A) → length l ≤ m → take (min n m) l ≡ take n l
take_min n m l h =
    elim (dec_lt n m) [
      | yes k ↦ let e : min n m ≡ n = omega arith in ap (λ (j : ℕ). take j l) e
      | no k ↦ let e : min n m ≡ m = omega arith in ap (λ (j : ℕ). take j l) e ∙ take_all m l h ∙ sym (take_all n l (omega arith))
    ]

-- of two texts behind each other the front has all of the first and what there is room for of the second
take_behind : {A : Type 0} (n : ℕ) (a b : List A) → length a ≤ n → take n (a ++ b) ≡ a ++ take (n - length a) b
take_behind n a b h =
    let e : n ≡ length a + (n - length a) = omega arith in
    ap (λ (k : ℕ). take k (a ++ b)) e ∙ take-append-add a b (n - length a)

-- the bytes that are kept of a line are those it holds, and as many
pub kept_front : {l : Line} {n : ℕ} → Keeps l n → take n l.text ≡ held_of l
kept_front {l} {n} k = ap (λ (j : ℕ). take j l.text) k.count ∙ take_min l.count 65 l.text (omega (arith, k.sized))

pub length_kept : {l : Line} {n : ℕ} → Keeps l n → length (held_of l) ≡ n
length_kept {l} {n} k = omega (arith, length-take l.count l.text, k.count, k.sized)

module _ (line : Line) (rest : List ℕ) (count more : ℕ) (keeps : Keeps line count) (is_more : more ≡ min (length (line_front rest)) (65 - count)) where
  piece : take more rest ≡ take (65 - count) (line_front rest)
  piece =
      sym (take-take more (length (line_front rest)) rest (omega arith))
      ∙ ap (take more) (front_take 10 rest)
      ∙ ap (λ (k : ℕ). take k (line_front rest)) (is_more ∙ min_comm (length (line_front rest)) (65 - count))
      ∙ take_min (65 - count) (length (line_front rest)) (line_front rest) (omega arith)

  -- the line takes what it has room for
  joined : take count line.text ++ take more rest ≡ grown_of (held_of line) rest
  joined =
      ap₂ (λ (a b : List ℕ). a ++ b) (kept_front keeps) (piece ∙ ap (λ (k : ℕ). take (65 - k) (line_front rest)) (sym (length_kept keeps)))
      ∙ sym (take_behind 65 (held_of line) (line_front rest) (omega (arith, length_kept keeps, keeps.count)))

  length_joined : count + length (take more rest) ≡ length (grown_of (held_of line) rest)
  length_joined = omega (arith, ap length joined, length-append (take count line.text) (take more rest), ap length (kept_front keeps), length_kept keeps)

  -- what is kept stands in front, and behind it what stood there
  text_grown : (out : List ℕ) → out ≡ put line.text count (take more rest)
      → out ≡ grown_of (held_of line) rest ++ drop (length (grown_of (held_of line) rest)) line.text
  text_grown out e = e ∙ ap₂ (λ (l : List ℕ) (k : ℕ). l ++ drop k line.text) joined length_joined

-- a cut, from what the code's steps answer
module _ (bytes : List ℕ) (from : ℕ) (line : Line) (end count more n : ℕ) (out : List ℕ) (inside : from ≤ length bytes) (keeps : Keeps line count) (is_end : end ≡ from + length (line_front (drop from bytes))) (is_more : more ≡ min (end - from) (65 - count))
    (is-out : out ≡ put line.text count (take (from + more - from) (drop from bytes))) (is-n : n ≡ count + length (take (from + more - from) (drop from bytes))) where
  end_inside : end ≤ length bytes
  end_inside = front_inside 10 bytes from end is_end inside

  line_grown : ◌≡◌ {A = Line} (record { text = out; count = n }) (holding line (grown_of (held_of line) (drop from bytes)))
  line_grown =
      let is : more ≡ min (length (line_front (drop from bytes))) (65 - count) = omega arith in
      let e = text_grown line (drop from bytes) count more keeps is out (is-out ∙ ap (λ (k : ℕ). put line.text count (take k (drop from bytes))) (add-sub_cancel_left from more)) in
      let f = is-n ∙ ap (λ (k : ℕ). count + length (take k (drop from bytes))) (add-sub_cancel_left from more) ∙ length_joined line (drop from bytes) count more keeps is in
      λ i. record { text = e i; count = f i }

  pub cut_whole : end < length bytes → ◌≡◌ {A = Cut} (record { line = record { text = out; count = n }; at = end + 1; whole = true }) (cut_of bytes from line)
  cut_whole h =
      let e = sym (held_by_length 10 (drop from bytes) ∙ lt-ltb (length (line_front (drop from bytes))) (length (drop from bytes)) (omega (arith, length-drop from bytes))) in
      let f : end + 1 ≡ past_line bytes from = omega arith in
      λ i. record { line = line_grown i; at = f i; whole = e i }

  pub cut_open : length bytes ≤ end → ◌≡◌ {A = Cut} (record { line = record { text = out; count = n }; at = end; whole = false }) (cut_of bytes from line)
  cut_open h =
      let e = sym (held_by_length 10 (drop from bytes) ∙ le-ltb (length (line_front (drop from bytes))) (length (drop from bytes)) (omega (arith, length-drop from bytes))) in
      let f : end ≡ past_line bytes from = omega (arith, end_inside) in
      λ i. record { line = line_grown i; at = f i; whole = e i }

-- what is kept of a line is what was put at the front of its places
pub held_holding : (l : Line) (t : List ℕ) → held_of (holding l t) ≡ t
held_holding l t = take-append_seam t (drop (length t) l.text)
