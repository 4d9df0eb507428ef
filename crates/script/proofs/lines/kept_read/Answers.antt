-- What is kept is the line.
use mathlib.Core.Path.{sym, ap, ◌∙◌}
use mathlib.Core.List.{List}
use Prim.Native.Nat.{ℕ, ◌≤◌}
use native.Mathlib.Omega.{arith}
use lib.ListN.{length}
use lib.Seq.{length-take-le}
use Rattle.script.specs.declared.Line.{Line}
use Rattle.script.specs.Reading.{line_of}
use Rattle.script.specs.Lines.{Keeps}
use Rattle.script.proofs.CutLaws.{kept_front}
use Rattle.script.proofs.lines.kept_read.Goals as goal

inside : {l : Line} {n : ℕ} → Keeps l n → n ≤ length l.text
inside k = omega (arith, k.count, k.sized)

pub slice_bounds-t-end : goal.slice_bounds-t-end
slice_bounds-t-end c = inside c.kept-n.ensures

pub slice_bounds-read_line-end : goal.slice_bounds-read_line-end
slice_bounds-read_line-end c = sym (length-take-le _ _ (inside c.kept-n.ensures))

pub returns : goal.returns
returns c = c.read_line.ensures ∙ ap (λ (t : List ℕ). line_of c.args.call t) (kept_front c.kept-n.ensures)
