-- The end of the last stretch.
use Rattle.picture.proofs.BandLaws.{end_none, end_some}
use Rattle.picture.proofs.bands.end_of.Goals as goal

pub returns-then-list-lt3 : goal.returns-then-list-lt3
returns-then-list-lt3 c = end_none c.args.list.now c.if-list-lt3.true

pub returns : goal.returns
returns c = end_some c.args.list.now c.if-list-lt3.false
