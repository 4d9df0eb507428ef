-- Nothing where there is no key.
use lib.ListN.{get_or}
use Rattle.answers.proofs.Laws.{and_then, adds_as, no_piece}
use Rattle.glance.specs.Glance.{legend_says}
use Rattle.glance.proofs.Laws.{no_key, a_key}
use Rattle.glance.proofs.entries.legend.Goals as goal

pub returns-then-keys-gt65535 : goal.returns-then-keys-gt65535
unfolding legend_says
returns-then-keys-gt65535 c = adds_as (no_key (get_or c.args.keys 0 0) _ c.if-keys-gt65535.true) (no_piece _ _)

pub returns : goal.returns
unfolding legend_says
returns c = adds_as (a_key (get_or c.args.keys 0 0) _ c.if-keys-gt65535.false) (and_then c.entries-a.ensures c.legend_end.ensures)
