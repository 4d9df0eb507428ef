-- By the op.
use Rattle.clerk.proofs.Performing.{as_desk}
use Rattle.clerk.specs.Desk.{desk_side, desk_says}
use Rattle.clerk.proofs.at_desk.Goals as goal

pub returns-in-Set : goal.returns-in-Set
returns-in-Set c = as_desk _ _ c.in-Set.is c.set.ensures

pub returns-in-LogEnd : goal.returns-in-LogEnd
unfolding desk_side desk_says
returns-in-LogEnd c = as_desk _ _ c.in-LogEnd.is c.end_log.ensures

pub returns-in-Range : goal.returns-in-Range
unfolding desk_side desk_says
returns-in-Range c = as_desk _ _ c.in-Range.is c.range.ensures

pub returns-in-Legend : goal.returns-in-Legend
unfolding desk_side desk_says
returns-in-Legend c = as_desk _ _ c.in-Legend.is c.legend.ensures

pub returns-in-Party : goal.returns-in-Party
unfolding desk_side desk_says
returns-in-Party c = as_desk _ _ c.in-Party.is c.party.ensures
