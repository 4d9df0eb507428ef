-- What stands behind the name, where the line begins with it.
use mathlib.Core.Path.{sym, ◌∙◌}
use Rattle.script.proofs.LineLaws.{start_fits, start_value, start_none}
use Rattle.script.proofs.reading.value_in.Goals as goal

pub returns-in_err-k : goal.returns-in_err-k
returns-in_err-k c = rw c.from_residual.ensures (start_none _ _ (sym c.value_start.ensures ∙ c.in_err-k.was))

pub slice_bounds-value-count : goal.slice_bounds-value-count
slice_bounds-value-count c = start_fits _ _ _ (sym c.value_start.ensures ∙ c.in_ok-k.was)

pub slice_bounds-value-start : goal.slice_bounds-value-start
slice_bounds-value-start c = start_fits _ _ _ (sym c.value_start.ensures ∙ c.in_ok-k.was)

pub returns : goal.returns
returns c = start_value _ _ _ (sym c.value_start.ensures ∙ c.in_ok-k.was)
