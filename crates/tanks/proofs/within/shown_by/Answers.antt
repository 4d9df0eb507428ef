-- `shown_by` meets its contract: an insertion shows the party's marks, any other edit none.
use lib.Pow.{pow_pos}
use Rattle.styles.proofs.UnionLaws.{pick_none}
use Rattle.tanks.proofs.within.shown_by.Goals as goal

pub returns-in-Annotate : goal.returns-in-Annotate
returns-in-Annotate c = (pow_pos c.args.n, rw c.in-Annotate.is (pick_none _))

pub returns-in-Insert : goal.returns-in-Insert
returns-in-Insert c = (c.shown_bits.ensures.0, rw c.in-Insert.is c.shown_bits.ensures.1)

pub returns-in-Delete : goal.returns-in-Delete
returns-in-Delete c = (pow_pos c.args.n, rw c.in-Delete.is (pick_none _))

pub returns-in-Remove : goal.returns-in-Remove
returns-in-Remove c = (pow_pos c.args.n, rw c.in-Remove.is (pick_none _))
