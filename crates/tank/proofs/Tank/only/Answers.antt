-- `Tank::only` meets its contract: an untouched tank has no marks; else the other party's leave every set, and then the table.
use borrow.Author.Tests.{not-true, not-false}
use Rattle.tank.proofs.NarrowLaws.{only_untouched, only_alone, can_narrow, narrow_touched, only_done}
use Rattle.tank.proofs.Tank.only.Goals as goal

pub returns-then-not-self : goal.returns-then-not-self
returns-then-not-self c = only_untouched c.requires c.args.who (not-true _ c.if-not-self.true)

pub returns-then-gone-eq0 : goal.returns-then-gone-eq0
returns-then-gone-eq0 c = only_alone c.requires c.args.who _ c.if-gone-eq0.true (rw c.other.ensures at c.party_bits-gone.ensures)

pub narrow-requires : goal.narrow-requires
narrow-requires c = can_narrow c.requires c.args.who _ (rw c.other.ensures at c.party_bits-gone.ensures)

pub trim-requires : goal.trim-requires
trim-requires c = (c.narrow.ensures.0, narrow_touched c.requires c.args.who _ (not-false _ c.if-not-self.false) c.narrow.ensures.1)

pub returns : goal.returns
returns c = only_done c.requires c.args.who _ _ c.narrow.ensures.1 c.trim.ensures
