-- Its parts, or nothing.
use Rattle.answers.proofs.Laws.{and_then}
use Rattle.picture.specs.Picture.{others_say}
use Rattle.picture.proofs.Choices.{chosen, not_chosen}
use Rattle.picture.proofs.entries.others.Goals as goal

pub returns-then-some : goal.returns-then-some
unfolding others_say
returns-then-some c = chosen c.args.some c.if-some.true (and_then c.patch-a.ensures (and_then c.colour-b.ensures (and_then c.caption-c.ensures c.say.ensures)))

pub returns : goal.returns
unfolding others_say
returns c = not_chosen _ _ _ c.args.some c.if-some.false
