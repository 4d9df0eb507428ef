-- The count, then the ranges.
use mathlib.Core.Path.{ap}
use Rattle.answers.proofs.Laws.{and_then, adds_as}
use Rattle.answers.specs.Replies.{range_count_says}
use Rattle.answers.proofs.plans.put_plan.Goals as goal

pub returns : goal.returns
returns c = and_then (adds_as (ap range_count_says c.wide.ensures) c.say-k.ensures) c.put_ranges.ensures
