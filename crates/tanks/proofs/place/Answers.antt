-- The tank's own place, or the first.
use native.Mathlib.Omega.{arith}
use mathlib.Core.Path.{sym}
use Rattle.tanks.proofs.PartsLaws.{place_in, place_past}
use Rattle.tanks.proofs.place.Goals as goal

pub returns-then-tank-lt8 : goal.returns-then-tank-lt8
returns-then-tank-lt8 c = (sym (place_in _ c.if-tank-lt8.true), c.if-tank-lt8.true)

pub returns-else-tank-lt8 : goal.returns-else-tank-lt8
returns-else-tank-lt8 c = (sym (place_past _ c.if-tank-lt8.false), omega arith)
