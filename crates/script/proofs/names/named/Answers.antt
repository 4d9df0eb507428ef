-- The word is put at the front of sixteen zeros.
use Rattle.script.proofs.LineLaws.{name_put}
use Rattle.script.proofs.names.named.Goals as goal

pub returns : goal.returns
returns c = let p = c.put-n in name_put _ _ _ p.ensures.0 p.ensures.1
