-- A tank to a turn; what is left to say stays the same.
use Prim.Native.Nat.{◌-◌}
use Rattle.answers.proofs.Laws.{Left}
use Rattle.tanks.specs.Pool.{meaning}
use Rattle.picture.specs.Elements.{each_from}
use Rattle.picture.specs.Bands.{tank_says}
use Rattle.picture.proofs.bands.tanks_drawn.Given as goal

abbrev pub invariant-loop-t : goal.invariant-loop-t
invariant-loop-t l = Left l.initial.out l.initial.k (each_from (tank_says (meaning l.s) l.keys l.hold) 0 8) l.k l.out (each_from (tank_says (meaning l.s) l.keys l.hold) l.t (8 - l.t))
