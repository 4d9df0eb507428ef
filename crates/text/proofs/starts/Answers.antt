use mathlib.Core.Path.{◌∙◌}
use Rattle.text.proofs.Prefix.{starts_pointwise}
use Rattle.text.proofs.starts.Goals as goal

pub returns : goal.returns
returns c = c.starts_with.ensures.value ∙ starts_pointwise c.args.s.now c.args.p.now
