-- `winner_at` meets its contract: the winner among the marks that are shown.
use mathlib.Core.Path.{ap, ◌∙◌}
use Rattle.styles.specs.Marks.{winner}
use Rattle.tanks.proofs.LookLaws.{few_in, sorted_in}
use Rattle.tanks.proofs.look.winner_at.Goals as goal

pub winner_of-requires : goal.winner_of-requires
winner_of-requires c = (few_in c.requires, sorted_in c.requires)

pub returns : goal.returns
returns c = c.winner_of.ensures ∙ ap (winner c.args.key) c.seen_at.ensures.0
