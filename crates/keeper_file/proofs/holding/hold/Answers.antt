use mathlib.Core.Path.{refl}
use Rattle.keeper_file.proofs.Holds.{moved_none, moved_on, moved_all}
use Rattle.keeper_file.proofs.holding.hold.Goals as goal

pub loop-i-init : goal.loop-i-init
loop-i-init c = moved_none _ _ _

pub loop-i-preserved : goal.loop-i-preserved
loop-i-preserved c = moved_on c.loop-i.invariant c.loop-i-test.true

pub shape_of-bytes : goal.shape_of-bytes
shape_of-bytes c = c.loop-i.invariant.room

pub returns : goal.returns
returns c =
    let p = c.requires in
    record { value = refl; bytes_after = moved_all c.loop-i.invariant c.loop-i-test.false p.0 p.1 }
