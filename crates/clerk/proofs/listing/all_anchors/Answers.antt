-- The count, and the anchors of the tank that is there.
use mathlib.Core.Path.{ap, ◌∙◌}
use Rattle.answers.proofs.Laws.{and_then, adds_as}
use Rattle.answers.specs.Replies.{line_says}
use Rattle.text.specs.Bytes.{bytes}
use Rattle.clerk.proofs.listing.all_anchors.Goals as goal

pub returns : goal.returns
returns c = and_then (adds_as (ap (line_says (bytes "anchors=")) (c.wide.ensures ∙ c.requires.stands.1)) c.say-k.ensures) c.put_anchors.ensures
