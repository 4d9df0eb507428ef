-- A bar, or none.
use Rattle.picture.proofs.Choices.{not_chosen}
use Rattle.picture.proofs.lanes.bar_if.Goals as goal

pub returns : goal.returns
returns c = not_chosen _ _ _ c.args.yes c.if-yes.false
