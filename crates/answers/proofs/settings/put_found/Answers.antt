-- The set, or none.
use Rattle.answers.specs.Replies.{found_says}
use Rattle.answers.proofs.settings.put_found.Goals as goal

pub returns-then-a : goal.returns-then-a
unfolding found_says
returns-then-a c = rw c.if-a.true c.put_pairs.ensures

pub returns : goal.returns
unfolding found_says
returns c = rw c.if-a.false c.none.ensures
