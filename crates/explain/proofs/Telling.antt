-- What is told of a line and its answer, from what the code's steps answer.
use Rattle.std.specs.Prelude.{Option, None}
use mathlib.Core.Path.{◌≡◌, sym, ap, ◌∙◌}
use mathlib.Core.Bool.{Bool, true, false, cond}
use mathlib.Core.List.{List, []}
use Prim.Native.Nat.{ℕ, ◌≤◌, ◌<◌}
use lib.Dec.{ltb}
use lib.ListN.{length, drop}
use borrow.Author.Tests.{lt-ltb, le-ltb}
use Rattle.text.specs.Bytes.{bytes, up_to, starts_of}
use Rattle.text.specs.Number.{decimal_of}
use Rattle.script.specs.declared.Call.{Call}
use Rattle.script.specs.declared.Cut.{Cut}
use Rattle.script.specs.declared.Read.{Read}
use Rattle.script.specs.declared.Reader.{Reader}
use Rattle.script.specs.Grammar.{field_at}
use Rattle.script.specs.Reading.{line_of}
use Rattle.script.specs.Lines.{State, state_of, held_of, grown_of, counted_of, cut_of}
use Rattle.script.proofs.CutLaws.{held_holding}
use Rattle.explain.specs.declared.Came.{Came}
use Rattle.explain.specs.Told.{told_number, refusal_by, refusal_told, came_of, end_of, came_at, bad_at, bad_told, told_of}

-- ---- The number in an answer
pub no_number : (answer : List ℕ) → length answer < 8 → None ≡ told_number answer
unfolding told_number
no_number answer h = sym (ap (λ (b : Bool). cond b None (decimal_of (up_to 10 (drop 8 answer)))) (lt-ltb (length answer) 8 h))

pub some_number : (answer : List ℕ) → 8 ≤ length answer → decimal_of (up_to 10 (drop 8 answer)) ≡ told_number answer
unfolding told_number
some_number answer h = sym (ap (λ (b : Bool). cond b None (decimal_of (up_to 10 (drop 8 answer)))) (le-ltb (length answer) 8 h))

-- ---- The line as it came
module _ (before : Reader) (input : List ℕ) {number : ℕ} {cut : Cut} (is_number : number ≡ counted_of before.newlines) (is_cut : cut ≡ cut_of input 0 before.line) where
  line_came : held_of cut.line ≡ grown_of (held_of before.line) input
  line_came = ap (λ (x : Cut). held_of x.line) is_cut ∙ held_holding before.line (grown_of (held_of before.line) input)

  told_call : {read : Read} → (answer : List ℕ) {p : Option ℕ} → read ≡ line_of before.call (held_of cut.line) → p ≡ told_number answer → refusal_by number read.call p ≡ refusal_told (state_of before) input answer
  unfolding refusal_told
  told_call {read} answer {p} r e =
      let call : Call = (line_of before.call (grown_of (held_of before.line) input)).call in
      ap (λ (n : ℕ). refusal_by n read.call p) is_number
      ∙ ap (λ (x : Read). refusal_by (counted_of before.newlines) x.call p) (r ∙ ap (line_of before.call) line_came)
      ∙ ap (refusal_by (counted_of before.newlines) call) e

  pub bad_told_lem : {some : Bool} → some ≡ ltb 0 (length input) → bad_at number before.call some (held_of cut.line) ≡ bad_told (state_of before) input
  unfolding bad_told
  bad_told_lem {some} e =
      ap (λ (n : ℕ). bad_at n before.call some (held_of cut.line)) is_number
      ∙ ap (λ (b : Bool). bad_at (counted_of before.newlines) before.call b (held_of cut.line)) e
      ∙ ap (bad_at (counted_of before.newlines) before.call (ltb 0 (length input))) line_came

pub refusal_told_lem : (before : Reader) (input answer : List ℕ) {number : ℕ} {cut : Cut} {read : Read} {p : Option ℕ} → number ≡ counted_of before.newlines → cut ≡ cut_of input 0 before.line → read ≡ line_of before.call (held_of cut.line) → p ≡ told_number answer
    → refusal_by number read.call p ≡ refusal_told (state_of before) input answer
refusal_told_lem before input answer n c r e = told_call before input n c answer r e

-- ---- What came
module _ (call : Call) (line : List ℕ) {some : Bool} where
  pub some_came : some ≡ true → came_of (field_at call.row call.place) line ≡ came_at call some line
  some_came e = sym (ap (λ (b : Bool). cond b (came_of (field_at call.row call.place) line) (end_of line)) e)

  pub none_came : some ≡ false → end_of line ≡ came_at call some line
  none_came e = sym (ap (λ (b : Bool). cond b (came_of (field_at call.row call.place) line) (end_of line)) e)

-- ---- By the answer
module _ (s : State) (input answer : List ℕ) where
  pub told_refused : starts_of answer (bytes "refused=") ≡ true → refusal_told s input answer ≡ told_of s input answer
  unfolding told_of
  told_refused e = sym (ap (λ (b : Bool). cond b (refusal_told s input answer) (cond (starts_of answer (bytes "malformed=")) (bad_told s input) [])) e)

  pub told_bad : starts_of answer (bytes "refused=") ≡ false → starts_of answer (bytes "malformed=") ≡ true → bad_told s input ≡ told_of s input answer
  unfolding told_of
  told_bad e f =
      sym (ap (λ (b : Bool). cond b (bad_told s input) []) f)
      ∙ sym (ap (λ (b : Bool). cond b (refusal_told s input answer) (cond (starts_of answer (bytes "malformed=")) (bad_told s input) [])) e)

  pub told_nothing : starts_of answer (bytes "refused=") ≡ false → starts_of answer (bytes "malformed=") ≡ false → [] ≡ told_of s input answer
  unfolding told_of
  told_nothing e f =
      sym (ap (λ (b : Bool). cond b (bad_told s input) []) f)
      ∙ sym (ap (λ (b : Bool). cond b (refusal_told s input answer) (cond (starts_of answer (bytes "malformed=")) (bad_told s input) [])) e)
