-- The names that are held.
use Rattle.key_names.specs.Names.{names_of}
use Rattle.key_names.proofs.key_named.Goals as goal

pub returns : goal.returns
unfolding names_of
returns c = c.key_among.ensures
