-- What its callee adds.
use Rattle.clerk.specs.Calls.{list_look_says}
use Rattle.clerk.proofs.listing.whole_called.Goals as goal

pub returns : goal.returns
unfolding list_look_says
returns c = c.whole_there.ensures
