use native.Mathlib.Omega.{arith}
use Rattle.refusal.proofs.NumberLaws.{positive}
use Rattle.tanks.proofs.SettingLaws as rule
use Rattle.saved.proofs.Restoring.{filling_none, tank_wrong, sum_wrong, tank_more, filling_done}
use Rattle.saved.proofs.house.tanks_lines.Goals as goal

pub loop-t-init : goal.loop-t-init
loop-t-init c = filling_none c.args.start c.requires.1 c.requires.2 c.args.version c.args.bytes.now c.args.from c.requires.0

pub limit_of-requires : goal.limit_of-requires
limit_of-requires c = (c.loop-t.invariant.sound.settings_8, c.loop-t-test.true)

pub tank_lines-r-requires : goal.tank_lines-r-requires
tank_lines-r-requires c =
    let l = c.loop-t in
    let k = rule.accepted_at l.tanks.settings l.invariant.sound.rule l.t c.loop-t-test.true in (
      omega (arith, l.invariant.lines_most, c.loop-t-test.true),
      c.loop-t-test.true,
      omega (arith, c.limit_of.ensures, k.low, k.order),
      omega (arith, c.limit_of.ensures, k.high),
      l.invariant.inside,
    )

pub returns-then-r-gt0 : goal.returns-then-r-gt0
returns-then-r-gt0 c =
    let l = c.loop-t in
    let a = c.args in
    rw c.filled_to.ensures (tank_wrong a.version a.start.settings a.bytes.now a.from l.tanks l.at l.lines l.t l.invariant c.loop-t-test.true c.limit_of.result c.limit_of.ensures c.tank_lines-r.result c.tank_lines-r.ensures c.if-r-gt0.true)

pub put-requires : goal.put-requires
put-requires c = (c.loop-t.invariant.sound, c.loop-t-test.true, c.tank_lines-r.ensures.formed (omega (arith, c.if-r-gt0.false)))

pub returns-in-Err : goal.returns-in-Err
returns-in-Err c =
    let l = c.loop-t in
    let a = c.args in
    rw c.filled_to-in-Err.ensures (sum_wrong a.version a.start.settings a.bytes.now a.from l.tanks l.at l.lines l.t l.invariant c.loop-t-test.true c.limit_of.result c.limit_of.ensures c.tank_lines-r.result c.tank_lines-r.ensures c.if-r-gt0.false _ c.put.new.self c.in-Err.ensures (positive _))

pub loop-t-preserved : goal.loop-t-preserved
loop-t-preserved c =
    let l = c.loop-t in
    let a = c.args in
    tank_more a.version a.start.settings a.bytes.now a.from l.tanks l.at l.lines l.t l.invariant c.loop-t-test.true c.limit_of.result c.limit_of.ensures c.tank_lines-r.result c.tank_lines-r.ensures c.if-r-gt0.false 0 c.put.new.self c.in-Ok.ensures (omega arith)

pub returns : goal.returns
returns c =
    let l = c.loop-t in
    let a = c.args in
    rw c.filled_to-2.ensures (filling_done a.version a.start.settings a.bytes.now a.from l.tanks l.at l.lines l.t l.invariant c.loop-t-test.false)
