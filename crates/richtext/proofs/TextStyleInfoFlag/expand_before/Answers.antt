-- `TextStyleInfoFlag::expand_before` meets its contract: the mask 0x02 tests the bit of that weight. Assumes nothing.
use Rattle.laws.proofs.Masks.{mask_bit}
use Rattle.richtext.proofs.TextStyleInfoFlag.expand_before.Goals as goal

pub returns : goal.returns
returns c = mask_bit 1 c.args.self.«data»
