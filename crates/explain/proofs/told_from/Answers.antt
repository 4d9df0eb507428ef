-- Within a body, or in the lines.
use mathlib.Core.Path.{◌≡◌, ◌∙◌}
use Prim.Native.Nat.{◌≤◌, ◌<◌}
use borrow.Author.Tests.{lt-ltb, le-ltb}
use Rattle.script.specs.declared.Inlet.{Inlet}
use Rattle.script.specs.declared.Reader.{Reader}
use Rattle.script.specs.Lines.{empty_line}
use Rattle.explain.specs.Told.{tells_from}
use Rattle.explain.proofs.told_from.Goals as goal

module _ (i : Inlet) where
  within : 0 < i.left → ◌≡◌ {A = Reader} (record { line = empty_line; call = i.call; newlines = i.reader.newlines }) (tells_from i)
  unfolding tells_from
  within h = rw (lt-ltb 0 i.left h)

  between : i.left ≤ 0 → i.reader ≡ tells_from i
  unfolding tells_from
  between h = rw (le-ltb 0 i.left h)

pub returns-then-i-gt0 : goal.returns-then-i-gt0
returns-then-i-gt0 c = c.in_body.ensures ∙ within _ c.if-i-gt0.true

pub returns : goal.returns
returns c = between _ c.if-i-gt0.false
