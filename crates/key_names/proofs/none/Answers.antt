-- There are none.
use Rattle.key_names.proofs.Held.{none_held}
use Rattle.key_names.proofs.none.Goals as goal

pub returns : goal.returns
returns c = none_held
