-- `stretches::width` meets its contract: the three forms of an entry.
use mathlib.Core.Path.{sym, ap}
use lib.ListN.{length}
use Rattle.runs.proofs.ListLaws.{entry_past, entry_few, entry_full}
use Rattle.runs.proofs.stretches.width.Goals as goal

pub returns-then-end-start : goal.returns-then-end-start
returns-then-end-start c = sym (ap length (entry_past _ _ _ _ c.if-end-start.true))

pub returns-then-marks-least : goal.returns-then-marks-least
returns-then-marks-least c = sym (ap length (entry_few _ _ _ _ c.if-marks-least.true))

pub returns : goal.returns
returns c = sym (ap length (entry_full _ _ _ _ c.if-end-start.false c.if-marks-least.false))
