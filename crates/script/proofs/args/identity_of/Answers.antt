-- Each number is cut to its width.
use Rattle.script.proofs.args.identity_of.Goals as goal

pub returns : goal.returns
returns c = rw (c.key_of.ensures, c.low32.ensures)
