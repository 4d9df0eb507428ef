-- `first` meets its contract: from the first run on all anchors come.
use mathlib.Core.Path.{◌∙◌}
use Rattle.ask.proofs.RecordLaws.{fresh_walks, fresh_rest}
use Rattle.ask.proofs.records.first.Goals as goal

pub made_ahead-requires : goal.made_ahead-requires
made_ahead-requires c = (c.requires, fresh_walks c.requires)

pub returns : goal.returns
returns c = let r = c.made_ahead.ensures in (r.0, r.1 ∙ fresh_rest c.requires)
