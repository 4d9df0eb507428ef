-- A text that is none, one that does not fit, or the text behind the last whole group.
use Rattle.tanks.specs.Pool.{meaning}
use Rattle.door.specs.Door.{fed_on}
use Rattle.door.proofs.Laws.{too_long, fits, feed_wrong, feed_long, feed_done}
use Rattle.door.proofs.feed_in.Goals as goal

pub returns-then-t-gt0 : goal.returns-then-t-gt0
returns-then-t-gt0 c = let a = c.args in feed_wrong a.text.now a.bytes.now a.next.now c.tanks_of-t.ensures c.if-t-gt0.true c.wrong.ensures

pub take_groups-k-requires : goal.take_groups-k-requires
take_groups-k-requires c = c.tanks_of-t.ensures.sound

pub write-l-requires : goal.write-l-requires
write-l-requires c = c.take_groups-k.ensures.sound

pub returns-then-l-gt0 : goal.returns-then-l-gt0
returns-then-l-gt0 c =
    let a = c.args in
    let k = c.take_groups-k in
    let t = k.result in
    let w = c.write-l.ensures in
    feed_long a.text.now a.bytes.now a.next.now c.tanks_of-t.ensures _ t c.if-t-gt0.false k.ensures c.wrong-then-l-gt0.ensures
    (too_long (meaning t.tanks) a.next.now w.value w.out_after (fed_on (meaning t.tanks) t.at t.edits t.stop) c.if-l-gt0.true)

pub returns : goal.returns
returns c =
    let a = c.args in
    let k = c.take_groups-k in
    let t = k.result in
    let w = c.write-l.ensures in
    feed_done a.text.now a.bytes.now a.next.now c.tanks_of-t.ensures _ t c.if-t-gt0.false k.ensures c.fed.ensures
    (fits (meaning t.tanks) a.next.now w.value w.out_after (fed_on (meaning t.tanks) t.at t.edits t.stop) c.if-l-gt0.false)
