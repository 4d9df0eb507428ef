-- What was written, and what is told of it.
use lib.ListN.{length}
use Rattle.door.specs.Door.{begun}
use Rattle.door.proofs.Laws.{tells}
use Rattle.door.proofs.mavelino_begin.Goals as goal

pub returns : goal.returns
returns c =
    let a = c.args in
    let b = c.begin_in-o in
    record { tells = tells (begun a.settings.now (length a.next.now)) b.result b.ensures.is c.tell.ensures; text = b.ensures.text }
