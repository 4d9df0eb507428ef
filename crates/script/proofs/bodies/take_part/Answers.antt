-- As many bytes as are left, or as have come.
use Rattle.script.proofs.BodyLaws.{piece_room_lem, takes_part}
use Rattle.script.proofs.bodies.take_part.Goals as goal

pub put-have-requires : goal.put-have-requires
put-have-requires c = piece_room_lem c.args.i _ _ c.args.body.now _ c.requires.0 c.requires.1 c.requires.2 c.least-more.ensures

pub returns : goal.returns
returns c = takes_part _ _ _ _ _ c.requires.0 c.requires.1 c.requires.2 c.least-more.ensures _ _ c.put-have.ensures.0 c.put-have.ensures.1 _ c.behind-next.ensures _ c.after_part.ensures
