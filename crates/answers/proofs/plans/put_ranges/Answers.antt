use borrow.Author.Rules.{rules}
use Rattle.std.proofs.Common.{◌≡◌, ◌<◌, ◌-◌, ℕ, ap, arith, length, min, take, length-take, get_or-take}
use Rattle.answers.proofs.Laws.{left_more, left_none, adds_as}
use Rattle.answers.proofs.Loops.{range_more, range_none}
use Rattle.answers.specs.Replies.{range_says, ranges_say}
use Rattle.answers.proofs.plans.put_ranges.Goals as goal

pub loop-x-preserved : goal.loop-x-preserved
loop-x-preserved c =
    let w = c.loop-x in
    let xs = c.args.plan.ranges in
    let n = c.min.result in
    let e : w.x-index < n = omega (arith, length-take n xs, c.loop-x-test.true) in
    left_more (range_more (length (take n xs)) w.x-index xs c.loop-x-test.true) (adds_as (ap range_says (get_or-take n xs w.x-index _ e)) c.put_range-k.ensures) w.invariant

pub returns : goal.returns
returns c =
    let w = c.loop-x in
    let p = c.args.plan in
    let n = c.min.result in
    let long : length p.ranges ≡ 32 = search rules in
    let all : length (take n p.ranges) - 0 ≡ min p.count 32 = omega (arith, length-take n p.ranges, c.min.ensures) in
    adds_as (ap (λ (m : ℕ). ranges_say m 0 p.ranges) all) (left_none (range_none (length (take n p.ranges)) w.x-index p.ranges c.loop-x-test.false) w.invariant)
