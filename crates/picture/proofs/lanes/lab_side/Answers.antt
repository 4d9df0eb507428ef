-- A word and the band, or nothing.
use Rattle.answers.proofs.Laws.{and_then, no_piece}
use Rattle.tank.specs.State.{view}
use Rattle.picture.specs.Lanes.{lab_says}
use Rattle.picture.proofs.Choices.{lab_none, lab_some}
use Rattle.picture.proofs.Listing.{marks_are}
use Rattle.picture.proofs.lanes.lab_side.Goals as goal

pub returns-then-t-lt1 : goal.returns-then-t-lt1
unfolding lab_says
returns-then-t-lt1 c =
    let v = view c.args.t in
    let few = c.if-t-lt1.true in
    lab_none _ (marks_are c.requires.1) few (no_piece _ _)

pub returns : goal.returns
unfolding lab_says
returns c =
    let v = view c.args.t in
    lab_some _ (marks_are c.requires.1) c.if-t-lt1.false (and_then c.text_at-a.ensures (and_then c.say-b.ensures c.side.ensures))
