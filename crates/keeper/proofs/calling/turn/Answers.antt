-- Where nothing can be read, the clerk stands where he stood.
use Rattle.keeper.proofs.calling.turn.Goals as goal

pub returns-in-Err : goal.returns-in-Err
returns-in-Err c =
    let s = c.requires.settled in
    let h = c.halted.ensures in
    (rw h.1 s.0, rw h.0 s.1)
