-- `joined::front` meets its contract: whole runs are carried, and the part of a run that is left is pushed.
use mathlib.Core.Path.{◌∙◌}
use native.Mathlib.Omega.{arith}
use Rattle.runs.proofs.Laws.{total_sums}
use Rattle.runs.proofs.BehindLaws.{count_push, behind_on}
use Rattle.runs.proofs.CarryLaws.{front_room, front_behind, front_canon, front_end, front_can, front_done}
use Rattle.runs.proofs.joined.front.Goals as goal

pub find-f-requires : goal.find-f-requires
find-f-requires c = (c.requires.can.lens_m, c.requires.all_is ∙ total_sums c.args.lens.now c.args.sets.now c.args.m, omega (arith, c.requires.all_is, c.requires.can.source))

pub carry-requires : goal.carry-requires
carry-requires c =
    let f = c.find-f.ensures in
    (omega (arith, front_room c.requires f), omega (arith, c.requires.can.lens_m, f.within))

pub carry-requires-2 : goal.carry-requires-2
carry-requires-2 c =
    let f = c.find-f.ensures in
    (omega (arith, front_room c.requires f, c.requires.can.even), omega (arith, c.requires.can.sets_m, f.within))

pub push-requires : goal.push-requires
push-requires c = front_can c.requires c.find-f.ensures _ _ c.carry.ensures c.carry-2.ensures c.if-i-m.true c.carry.auto.out c.carry-2.auto.out

pub returns-then-i-m : goal.returns-then-i-m
returns-then-i-m c = let f = c.find-f.ensures in record { appended = front_done c.requires f _ _ c.carry.ensures c.carry-2.ensures c.if-i-m.true c.push.new.lens c.push.new.sets c.push.result c.push.ensures.appended; same_behind = behind_on _ _ (count_push _ _ _ _ _ _ _ _ (front_canon c.requires f _ _ c.carry.ensures c.carry-2.ensures) c.push.ensures.appended) (front_behind c.requires f _ _ c.carry.ensures c.carry-2.ensures) c.push.ensures.same_behind }

pub returns : goal.returns
returns c =
    let f = c.find-f.ensures in
    record { appended = front_end c.requires f _ _ c.carry.ensures c.carry-2.ensures c.if-i-m.false; same_behind = front_behind c.requires f _ _ c.carry.ensures c.carry-2.ensures }
