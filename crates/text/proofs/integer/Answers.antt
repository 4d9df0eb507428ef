-- `integer` meets its contract: 64 bits hold the numbers from -2^63 up to below 2^63.
use Rattle.text.specs.Signed.{signed_of}
use Rattle.text.proofs.integer.Goals as goal

pub returns : goal.returns
unfolding signed_of
returns c = c.integer_within.ensures
