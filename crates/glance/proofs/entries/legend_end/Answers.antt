-- By whether keys are left out.
use mathlib.Core.Path.{sym, ap}
use Rattle.answers.proofs.Laws.{and_then, adds_as}
use Rattle.glance.specs.Glance.{end_says}
use Rattle.glance.proofs.entries.legend_end.Goals as goal

pub returns-then-more : goal.returns-then-more
returns-then-more c = adds_as (sym (ap end_says c.if-more.true)) (and_then c.say-a.ensures c.say.ensures)
