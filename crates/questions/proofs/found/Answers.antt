-- `found` meets its contract: a match on what the rank found.
use Rattle.questions.proofs.found.Goals as goal

pub returns-in-Some : goal.returns-in-Some
returns-in-Some c = rw c.in-Some.is
