use native.Mathlib.Omega.{arith}
use Rattle.strip.proofs.StripLaws.{spelt_all}
use Rattle.strip.proofs.spell.Goals as goal

pub returns : goal.returns
returns c = spelt_all _ _ _ c.loop-i.i c.loop-i.invariant (omega arith) c.requires
