-- What is kept stays as it was.
use Rattle.answers.proofs.Laws.{adds_as}
use Rattle.answers.specs.Replies.{found_says}
use Rattle.clerk.specs.Desk.{desk_side, desk_says}
use mathlib.Core.Path.{refl, ap}
use Rattle.clerk.proofs.desk.set.Goals as goal

pub returns : goal.returns
unfolding desk_side desk_says
returns c = record { settled = c.requires.settled; is = refl; answer = adds_as (ap found_says c.ask.ensures) c.put_found-k.ensures }
