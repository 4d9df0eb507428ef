use mathlib.Core.Path.{ap, ◌∙◌}
use native.Mathlib.Omega.{arith}
use lib.ListN.{get_or, length-replicate}
use Rattle.richtext.specs.declared.AnchorType.TheVariants.{End}
use Rattle.styles.specs.Marks.{blank}
use Rattle.lists.specs.Anchors.{anchor_of}
use Rattle.lists.proofs.CursorLaws.{lowest_in}
use Rattle.ask.proofs.RecordLaws.{fill_begins, fill_more, fill_on, fill_ends, end_turn, start_turn, run_turn, last_turn, no_turn, run_fits, less_made, less_run, less_last}
use Rattle.ask.proofs.records.made_ahead.Goals as goal

pub loop-count-init : goal.loop-count-init
loop-count-init c = fill_begins _ (length-replicate 16 c.no_anchor-none.result) c.requires.1

pub bounds-marks-i : goal.bounds-marks-i
bounds-marks-i c =
    let f = c.loop-count.invariant in
    omega (arith, c.lowest-i.ensures.0, lowest_in 64 _ (omega arith) f.walks.ends_64 c.if-w-gt0.true)

pub bounds-made-count : goal.bounds-made-count
bounds-made-count c = omega (arith, c.loop-count-test.true)

pub loop-count-smaller-then-w-gt0 : goal.loop-count-smaller-then-w-gt0
loop-count-smaller-then-w-gt0 c =
    let e = c.past_end-w.ensures in
    less_made c.args.p c.loop-count.count c.loop-count.w c.past_end-w.result c.loop-count-test.true (ap (λ d. d.passed) e) (ap (λ d. d.last) e)

pub loop-count-preserved-then-w-gt0 : goal.loop-count-preserved-then-w-gt0
loop-count-preserved-then-w-gt0 c =
    let f = c.loop-count.invariant in
    fill_more f c.mark_anchor.result c.loop-count-test.true
    (c.mark_anchor.ensures ∙ ap (λ x. anchor_of x End (get_or c.args.p.marks c.lowest-i.result blank)) c.saturating_sub.ensures)
    (end_turn c.requires.0 f.walks c.lowest-i.result c.if-w-gt0.true c.lowest-i.ensures.0 c.past_end-w.result c.past_end-w.ensures)

pub bounds-marks-i-then-w-gt0-2 : goal.bounds-marks-i-then-w-gt0-2
bounds-marks-i-then-w-gt0-2 c =
    let f = c.loop-count.invariant in
    omega (arith, c.lowest-i-then-w-gt0-2.ensures.0, lowest_in 64 _ (omega arith) f.walks.starts_64 c.if-w-gt0-2.true)

pub bounds-made-count-then-w-gt0-2 : goal.bounds-made-count-then-w-gt0-2
bounds-made-count-then-w-gt0-2 c = omega (arith, c.loop-count-test.true)

pub loop-count-smaller-then-w-gt0-2 : goal.loop-count-smaller-then-w-gt0-2
loop-count-smaller-then-w-gt0-2 c =
    let e = c.past_start-w.ensures in
    less_made c.args.p c.loop-count.count c.loop-count.w c.past_start-w.result c.loop-count-test.true (ap (λ d. d.passed) e) (ap (λ d. d.last) e)

pub loop-count-preserved-then-w-gt0-2 : goal.loop-count-preserved-then-w-gt0-2
loop-count-preserved-then-w-gt0-2 c =
    let f = c.loop-count.invariant in
    fill_more f c.mark_anchor-then-w-gt0-2.result c.loop-count-test.true c.mark_anchor-then-w-gt0-2.ensures
    (start_turn c.requires.0 f.walks c.lowest-i-then-w-gt0-2.result (omega (arith, c.if-w-gt0.false)) c.if-w-gt0-2.true c.lowest-i-then-w-gt0-2.ensures.0 c.past_start-w.result c.past_start-w.ensures)

pub overflow_add-r : goal.overflow_add-r
overflow_add-r c = omega (arith, c.requires.0.inside, c.if-w-p.true)

pub bounds-pool-p : goal.bounds-pool-p
bounds-pool-p c = omega (arith, c.requires.0.inside, c.if-w-p.true)

pub over-w-requires : goal.over-w-requires
over-w-requires c =
    let f = c.loop-count.invariant in
    (omega (arith, run_fits c.requires.0 f.walks c.if-w-p.true), omega (arith, c.requires.0.inside, c.if-w-p.true))

pub loop-count-smaller-then-w-p : goal.loop-count-smaller-then-w-p
loop-count-smaller-then-w-p c = less_run c.args.p c.loop-count.count c.loop-count.w c.over-w.result c.if-w-p.true (ap (λ d. d.passed) c.over-w.ensures)

pub loop-count-preserved-then-w-p : goal.loop-count-preserved-then-w-p
loop-count-preserved-then-w-p c =
    let f = c.loop-count.invariant in
    fill_on f (run_turn c.requires.0 f.walks (omega (arith, c.if-w-gt0.false)) (omega (arith, c.if-w-gt0-2.false)) c.if-w-p.true c.over-w.result c.over-w.ensures)

pub returns-then-w-eq0 : goal.returns-then-w-eq0
returns-then-w-eq0 c =
    let f = c.loop-count.invariant in
    fill_ends f (λ _. no_turn c.requires.0 f.walks (omega (arith, c.if-w-gt0.false)) (omega (arith, c.if-w-gt0-2.false)) c.if-w-p.false c.if-w-eq0.true) c.handed.result c.handed.ensures

pub loop-count-smaller : goal.loop-count-smaller
loop-count-smaller c =
    let e = c.behind-w.ensures in
    less_last c.args.p c.loop-count.count c.loop-count.w c.behind-w.result c.if-w-eq0.false (ap (λ d. d.passed) e) (ap (λ d. d.last) e)

pub loop-count-preserved : goal.loop-count-preserved
loop-count-preserved c =
    let f = c.loop-count.invariant in
    fill_on f (last_turn c.requires.0 f.walks (omega (arith, c.if-w-gt0.false)) (omega (arith, c.if-w-gt0-2.false)) c.if-w-p.false c.behind-w.result c.behind-w.ensures)

pub returns : goal.returns
returns c = fill_ends c.loop-count.invariant (λ h. absurd (omega (arith, c.loop-count-test.false))) c.handed-2.result c.handed-2.ensures
