-- What was written, and what is told of it.
use lib.ListN.{length}
use Rattle.door.specs.Door.{run}
use Rattle.door.proofs.Laws.{tells}
use Rattle.door.proofs.mavelino_run.Goals as goal

pub run_in-o-requires : goal.run_in-o-requires
run_in-o-requires c = c.held_room-held.ensures

pub returns : goal.returns
returns c =
    let a = c.args in
    let b = c.run_in-o in
    record { tells = tells (run a.text.now a.calls.now (length a.next.now) (length a.answers.now)) b.result b.ensures.is c.tell.ensures; text = b.ensures.text; answers = b.ensures.answers }
