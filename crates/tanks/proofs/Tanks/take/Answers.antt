-- `Tanks::take` meets its contract: what is taken out is tank t, and every tank of a sound state is sound; a fresh tank where there is none.
use native.Mathlib.Omega.{arith}
use Prim.Native.Nat.{◌<◌}
use Rattle.tanks.specs.Pool.{tank_of}
use Rattle.tanks.proofs.SettingLaws.{sound_held, taken}
use Rattle.tanks.proofs.AnswerLaws.{taken_in, taken_past}
use Rattle.tanks.proofs.Tanks.take.Goals as goal

pub taken-requires : goal.taken-requires
taken-requires c = (omega arith, sound_held c.args.self c.requires)

pub returns-then-t-lt8 : goal.returns-then-t-lt8
unfolding tank_of
returns-then-t-lt8 c =
    let h : c.args.t < 8 = omega arith in
    taken_in c.args.self c.args.t h (taken c.args.self c.requires c.args.t _ h c.taken.ensures)

pub returns : goal.returns
returns c = taken_past c.args.self c.args.t (omega arith) c.fresh.ensures
