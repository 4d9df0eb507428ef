-- What was written, and what is told of it.
use Rattle.door.proofs.Laws.{tells}
use Rattle.door.proofs.mavelino_feed.Goals as goal

pub returns : goal.returns
returns c =
    let b = c.feed_in-o in
    let w = b.ensures.writes in
    record { result = b.ensures.result; by = b.ensures.by; tells = tells b.ensures.result b.result w.is c.tell.ensures; text = w.text }
