use Rattle.std.proofs.Common.{◌≡◌, ◌-◌, ℕ, ap, arith}
use Rattle.answers.proofs.Laws.{left_more, left_none, adds_as}
use Rattle.answers.proofs.Loops.{cut_more, cut_none}
use Rattle.answers.specs.Replies.{cut_up}
use Rattle.answers.proofs.texts.put_pieces.Goals as goal

pub loop-i-preserved : goal.loop-i-preserved
loop-i-preserved c =
    let w = c.loop-i in
    let a = c.args in
    left_more (cut_more a.count w.i a.text.now (omega arith)) c.put_part-k.ensures w.invariant

pub returns : goal.returns
returns c =
    let w = c.loop-i in
    let a = c.args in
    let all : a.count - 0 ≡ a.count = omega arith in
    adds_as (ap (λ (n : ℕ). cut_up n 0 a.text.now) all) (left_none (cut_none a.count w.i a.text.now (omega arith)) w.invariant)
