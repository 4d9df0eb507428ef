-- The edits, then where the log stands.
use Rattle.answers.proofs.Laws.{and_then}
use Rattle.answers.proofs.reports.put_report.Goals as goal

pub returns : goal.returns
returns c = and_then c.say-k.ensures c.put_stop.ensures
