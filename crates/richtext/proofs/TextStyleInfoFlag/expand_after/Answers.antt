-- `TextStyleInfoFlag::expand_after` meets its contract: the mask 0x04 tests the bit of that weight. Assumes nothing.
use Rattle.laws.proofs.Masks.{mask_bit}
use Rattle.richtext.proofs.TextStyleInfoFlag.expand_after.Goals as goal

pub returns : goal.returns
returns c = mask_bit 2 c.args.self.«data»
