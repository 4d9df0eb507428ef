-- The line of a number between the two bounds.
use mathlib.Core.Path.{ap₂, ◌∙◌}
use Prim.Native.Nat.{ℕ}
use Rattle.text.specs.Bytes.{bytes}
use Rattle.text_lines.specs.Lines.{taken_by, decimal_from}
use Rattle.saved.proofs.one_tank.count_line.Goals as goal

pub returns : goal.returns
returns c =
    let a = c.args in
    c.number.ensures ∙ ap₂ (λ (x y : ℕ). taken_by (bytes "runs=") (decimal_from x y) a.t.now a.from) c.least_runs.ensures c.most_runs.ensures
