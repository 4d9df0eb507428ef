-- By what is asked for.
use Rattle.clerk.specs.Calls.{looks_say}
use Rattle.clerk.proofs.Looked.{as_looks}
use Rattle.clerk.proofs.at_tank.Goals as goal

pub returns-in-Question : goal.returns-in-Question
unfolding looks_say
returns-in-Question c = as_looks _ _ _ _ _ _ c.in-Question.is c.looked.ensures

pub returns-in-Listing : goal.returns-in-Listing
unfolding looks_say
returns-in-Listing c = as_looks _ _ _ _ _ _ c.in-Listing.is c.looked-in-Listing.ensures

pub returns-in-Strip : goal.returns-in-Strip
unfolding looks_say
returns-in-Strip c = as_looks _ _ _ _ _ _ c.in-Strip.is c.strip.ensures
