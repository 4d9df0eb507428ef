-- A line that is too long is bad, and so is one where no field is left to come.
use mathlib.Core.Path.{◌≡◌, ap, ◌∙◌}
use mathlib.Core.List.{List}
use Prim.Native.Nat.{ℕ, ◌≤◌, ◌<◌}
use lib.ListN.{length}
use borrow.Author.Tests.{lt-ltb, le-ltb}
use Rattle.script.specs.declared.Call.{Call}
use Rattle.script.specs.declared.Holds.{Holds}
use Rattle.script.specs.Grammar.{Field, field_at}
use Rattle.script.specs.Cells.{field_of}
use Rattle.script.specs.Reading.{bad_of, held_line, line_of}
use Rattle.script.proofs.Tables.{past_fields}
use Rattle.script.proofs.reading.read_line.Goals as goal

module _ (c : Call) (line : List ℕ) where
  too_long : 64 < length line → bad_of c ≡ line_of c line
  unfolding line_of
  too_long h = rw (lt-ltb 64 (length line) h)

  no_field : length line ≤ 64 → 16 ≤ c.place → bad_of c ≡ line_of c line
  unfolding line_of held_line
  no_field h p = rw (le-ltb 64 (length line) h) (rw (past_fields c.row c.place p))

  next_field : length line ≤ 64 → held_line c (field_at c.row c.place) (field_at c.row c.place).holds line ≡ line_of c line
  unfolding line_of
  next_field h = rw (le-ltb 64 (length line) h)

pub returns-then-line-gt64 : goal.returns-then-line-gt64
returns-then-line-gt64 c = c.bad.ensures ∙ too_long _ _ c.if-line-gt64.true

pub returns-then-place-ge16 : goal.returns-then-place-ge16
returns-then-place-ge16 c = c.bad-then-place-ge16.ensures ∙ no_field _ _ c.if-line-gt64.false c.if-place-ge16.true

pub returns : goal.returns
returns c =
    let a = c.args in
    c.held_line.ensures
    ∙ ap (λ (h : Holds). held_line a.call (field_of c.field_at-f.result) h a.line.now) c.field_holds.ensures
    ∙ ap (λ (g : Field). held_line a.call g g.holds a.line.now) c.field_at-f.ensures
    ∙ next_field a.call a.line.now c.if-line-gt64.false
