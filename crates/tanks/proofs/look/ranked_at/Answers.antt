-- `ranked_at` meets its contract: the mark of the rank among those that are shown.
use mathlib.Core.Path.{ap, ◌∙◌}
use Rattle.styles.specs.Answers.{rank_of}
use Rattle.tanks.proofs.LookLaws.{few_in}
use Rattle.tanks.proofs.look.ranked_at.Goals as goal

pub ranked-requires : goal.ranked-requires
ranked-requires c = (few_in c.requires, c.seen_at.ensures.1)

pub returns : goal.returns
returns c = c.ranked.ensures ∙ ap (λ ms. rank_of ms c.args.rank) c.seen_at.ensures.0
