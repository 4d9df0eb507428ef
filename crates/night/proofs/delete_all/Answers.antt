use native.Mathlib.Omega.{arith}
use Rattle.night.proofs.ApplyLaws.{applied_none, applied_all_lem, applied_more}
use Rattle.night.proofs.delete_all.Goals as goal

-- src/lib.rt:106:5
pub loop-i-init : goal.loop-i-init
loop-i-init c = applied_none c.requires

-- src/lib.rt:109:13
pub delete-done-requires : goal.delete-done-requires
delete-done-requires c = c.loop-i.invariant.applies.sound

-- src/lib.rt:106:5
pub loop-i-preserved : goal.loop-i-preserved
loop-i-preserved c = applied_more c.requires c.loop-i.invariant c.loop-i-test.true c.delete-done.ensures

-- src/lib.rt:100:1
pub returns : goal.returns
returns c =
    let g = c.loop-i-test.false in
    applied_all_lem c.requires c.loop-i.invariant (omega arith)
