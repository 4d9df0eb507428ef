-- `runs_of` meets its contract: the head counts the runs that the tank holds.
use mathlib.Core.Path.{sym}
use Rattle.tanks.proofs.MeaningLaws.{held_is}
use Rattle.night.proofs.runs_of.Goals as goal

pub returns : goal.returns
returns c = sym (held_is c.args.s c.requires.0 c.args.t c.requires.1)
