-- `joined::carry` meets its contract: a part of the list is written over.
use Rattle.runs.proofs.CarryLaws.{carried_part}
use Rattle.runs.proofs.joined.carry.Goals as goal

pub returns : goal.returns
returns c = let a = c.args in carried_part a.n a.k a.count a.source.now a.out.now _ c.requires.0 c.requires.1 c.copy_from_slice.ensures.after
