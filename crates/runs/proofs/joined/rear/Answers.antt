-- `joined::rear` meets its contract: the part of a run is pushed, and the whole runs behind it are carried.
use Prim.Native.Nat.{◌+◌, ◌-◌, ◌≤◌}
use mathlib.Core.Path.{◌∙◌}
use native.Mathlib.Omega.{arith}
use lib.ListN.{length}
use Rattle.runs.proofs.Laws.{total_sums}
use Rattle.runs.proofs.BehindLaws.{behind_none, behind_on}
use Rattle.runs.proofs.CarryLaws.{rear_none, rear_can, rear_room, rear_behind, rear_done}
use Rattle.runs.proofs.joined.rear.Goals as goal

pub find-f-requires : goal.find-f-requires
find-f-requires c = (c.requires.can.lens_m, c.requires.all_is ∙ total_sums c.args.lens.now c.args.sets.now c.args.m, omega (arith, c.requires.all_is, c.requires.can.source))

pub returns-then-m-i : goal.returns-then-m-i
returns-then-m-i c = record { appended = rear_none c.requires c.find-f.ensures c.if-m-i.true; same_behind = behind_none _ _ _ }

pub overflow_sub-f : goal.overflow_sub-f
overflow_sub-f c =
    let b = c.find-f.ensures.inside c.if-m-i.false in
    omega (arith, b.0)

pub push-at-requires : goal.push-at-requires
push-at-requires c = rear_can c.requires c.find-f.ensures c.if-m-i.false

pub carry-requires : goal.carry-requires
carry-requires c = (omega (arith, (let h : c.push-at.result + (c.args.m - c.find-f.result.index - 1) ≤ length c.args.olens.now = rear_room c.requires c.find-f.ensures c.if-m-i.false c.push-at.new.lens c.push-at.new.sets c.push-at.result c.push-at.ensures.appended in h), c.push-at.auto.lens), omega (arith, c.requires.can.lens_m, c.if-m-i.false))

pub carry-requires-2 : goal.carry-requires-2
carry-requires-2 c = (omega (arith, (let h : c.push-at.result + (c.args.m - c.find-f.result.index - 1) ≤ length c.args.olens.now = rear_room c.requires c.find-f.ensures c.if-m-i.false c.push-at.new.lens c.push-at.new.sets c.push-at.result c.push-at.ensures.appended in h), c.push-at.auto.sets, c.requires.can.even), omega (arith, c.requires.can.sets_m, c.if-m-i.false))

pub overflow_add-result : goal.overflow_add-result
overflow_add-result c = omega (arith, (let h : c.push-at.result + (c.args.m - c.find-f.result.index - 1) ≤ length c.args.olens.now = rear_room c.requires c.find-f.ensures c.if-m-i.false c.push-at.new.lens c.push-at.new.sets c.push-at.result c.push-at.ensures.appended in h))

pub returns : goal.returns
returns c = let f = c.find-f.ensures in record { appended = rear_done c.requires f c.if-m-i.false c.push-at.new.lens c.push-at.new.sets c.push-at.result c.push-at.ensures.appended _ _ c.carry.ensures c.carry-2.ensures; same_behind = behind_on _ _ (omega arith) c.push-at.ensures.same_behind (rear_behind c.requires f c.if-m-i.false c.push-at.new.lens c.push-at.new.sets c.push-at.result c.push-at.ensures.appended _ _ c.carry.ensures c.carry-2.ensures) }
