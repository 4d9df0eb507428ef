use Rattle.tanks.specs.Pool.{freshly}
use Rattle.tanks.proofs.fresh.Goals as goal

pub returns : goal.returns
unfolding freshly
returns c = simp (c.fill.ensures.after (λ y e. e), c.blank.ensures)
