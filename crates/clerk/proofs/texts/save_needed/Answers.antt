-- The count, as it says.
use mathlib.Core.Path.{ap, ◌∙◌}
use Rattle.answers.proofs.Laws.{adds_as}
use Rattle.answers.specs.Replies.{line_says}
use Rattle.text.specs.Bytes.{bytes}
use Rattle.clerk.specs.Calls.{save_needed_says}
use Rattle.clerk.proofs.texts.save_needed.Goals as goal

pub returns : goal.returns
unfolding save_needed_says
returns c = adds_as (ap (line_says (bytes "needed=")) (c.wide.ensures ∙ c.needed.ensures)) c.say.ensures
