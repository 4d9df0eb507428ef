use Rattle.std.proofs.Common.{ℕ, ap, ◌∙◌, map, take}
use lib.Seq.{take_all}
use Rattle.answers.proofs.Laws.{no_piece, and_then, adds_as}
use Rattle.answers.proofs.Loops.{marks_more}
use Rattle.answers.specs.Replies.{line_says}
use Rattle.text.specs.Bytes.{bytes}
use Rattle.script.specs.Writing.{mark_text}
use Rattle.answers.proofs.sets.put_set.Goals as goal

pub loop-mark-init : goal.loop-mark-init
loop-mark-init c = no_piece _ _

pub loop-mark-preserved : goal.loop-mark-preserved
loop-mark-preserved c =
    let w = c.loop-mark in
    adds_as (marks_more (take c.min.result c.args.m.marks) w.mark-index c.loop-mark-test.true) (and_then w.invariant c.put_mark-k.ensures)

pub returns : goal.returns
returns c =
    let m = c.args.m in
    let w = c.loop-mark in
    let all = take_all w.mark-index (take c.min.result m.marks) c.loop-mark-test.false ∙ ap (λ (n : ℕ). take n m.marks) c.min.ensures in
    and_then (adds_as (ap (line_says (bytes "marks=")) c.wide.ensures) c.say-k.ensures) (adds_as (ap (map mark_text) all) w.invariant)
