-- By how the call stands.
use mathlib.Core.Path.{◌≡◌, refl, ap₂, ◌∙◌}
use Prim.Native.Nat.{ℕ}
use Rattle.script.specs.declared.Call.{Call}
use Rattle.script.specs.declared.Reader.{Reader}
use Rattle.script.specs.Lines.{reader_at}
use Rattle.script.proofs.lines.turned.Goals as goal

at-start : {r : Reader} (c d : Call) (m n : ℕ) → r ≡ reader_at c m → c ≡ d → m ≡ n → r ≡ reader_at d n
at-start c d m n e f g = e ∙ ap₂ reader_at f g

pub returns-in-Bad : goal.returns-in-Bad
returns-in-Bad c = rw c.in-Bad.is (at-start _ _ _ _ c.at_line.ensures refl refl)

pub returns-in-More : goal.returns-in-More
returns-in-More c = rw c.in-More.is (at-start _ _ _ _ c.at_line-in-More.ensures refl c.counted.ensures)

pub returns-in-Ready : goal.returns-in-Ready
returns-in-Ready c = rw c.in-Ready.is (at-start _ _ _ _ c.at_line-in-Ready.ensures c.idle.ensures c.counted-in-Ready.ensures)
