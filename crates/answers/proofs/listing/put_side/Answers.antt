-- By the side.
use mathlib.Core.Path.{sym, ap}
use Rattle.answers.proofs.Laws.{adds_as}
use Rattle.answers.specs.Replies.{side_says}
use Rattle.answers.proofs.listing.put_side.Goals as goal

pub returns-in-Start : goal.returns-in-Start
returns-in-Start c = adds_as (sym (ap side_says c.in-Start.is)) c.say_word.ensures
