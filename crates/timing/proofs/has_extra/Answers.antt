-- The answer counts for 1 where it is yes.
use Rattle.timing.proofs.has_extra.Goals as goal

pub returns : goal.returns
returns c = rw (c.one_if_yes.ensures, c.range_contains_key.ensures)
