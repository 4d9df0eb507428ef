-- A line's text has 65 places.
use borrow.Author.Rules.{rules}
use Rattle.script.proofs.lines.kept.Goals as goal

pub returns : goal.returns
returns c = record { count = c.least.ensures; sized = search rules }
