-- Nothing where there is no key.
use lib.ListN.{get_or}
use Rattle.answers.proofs.Laws.{and_then, adds_as, no_piece}
use Rattle.glance.proofs.Laws.{no_key, a_key}
use Rattle.glance.proofs.entries.entry_at.Goals as goal

pub returns-then-key-gt65535 : goal.returns-then-key-gt65535
returns-then-key-gt65535 c = let a = c.args in adds_as (no_key (get_or a.keys a.i 0) _ c.if-key-gt65535.true) (no_piece _ _)

pub returns : goal.returns
returns c = let a = c.args in adds_as (a_key (get_or a.keys a.i 0) _ c.if-key-gt65535.false) (and_then c.line_begins-a.ensures c.entry.ensures)
