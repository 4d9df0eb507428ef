-- By whether the laboratory has a mark.
use native.Mathlib.Omega.{arith}
use Rattle.picture.proofs.BandLaws.{deep, flat}
use Rattle.picture.proofs.bands.depth.Goals as goal

pub returns-then-shared : goal.returns-then-shared
returns-then-shared c = (deep c.requires c.shared.result c.shared.ensures c.if-shared.true, omega arith)

pub returns : goal.returns
returns c = (flat c.requires c.shared.result c.shared.ensures c.if-shared.false, omega arith)
