use Prim.Native.Nat.{ℕ}
use mathlib.Core.Bool.{Bool, cond}
use mathlib.Core.List.{[]}
use mathlib.Core.Path.{ap}
use lib.ListN.{get_or}
use Rattle.answers.proofs.Laws.{no_piece, adds_as, left_more, left_none}
use Rattle.tank.specs.State.{view}
use Rattle.picture.specs.Elements.{each_stretch}
use Rattle.picture.specs.Bands.{held_in, hatch_says, holds_say}
use Rattle.picture.proofs.Choices.{when_true, when_false}
use Rattle.picture.proofs.Turns.{stretch_more, stretch_none}
use borrow.Author.Tests.{lt-ltb, le-ltb}
use lib.Dec.{ltb}
use Rattle.picture.proofs.bands.holds.Goals as goal

pub returns-then-hold-gt65535 : goal.returns-then-hold-gt65535
unfolding holds_say
returns-then-hold-gt65535 c =
    let b = c.args.band in
    let hold = c.args.hold in
    let v = view c.args.t in
    let list = c.args.list.now in
    when_true [] (each_stretch (λ (from to marks : ℕ). cond (held_in v hold from to) (hatch_says b from to) []) list) (ltb 65535 hold) (lt-ltb 65535 hold c.if-hold-gt65535.true) (no_piece _ _)

pub loop-left-preserved : goal.loop-left-preserved
loop-left-preserved c =
    let b = c.args.band in
    let hold = c.args.hold in
    let v = view c.args.t in
    let w = c.loop-left in
    let l = w.left.now in
    left_more (stretch_more (λ (from to marks : ℕ). cond (held_in v hold from to) (hatch_says b from to) []) l c.in-len3-up.len_at_least) (adds_as (ap (λ (x : Bool). cond x (hatch_says b (get_or l 0 0) (get_or l 1 0)) []) c.held-yes.ensures) c.hatch_if-k.ensures) w.invariant

pub returns : goal.returns
unfolding holds_say
returns c =
    let b = c.args.band in
    let hold = c.args.hold in
    let v = view c.args.t in
    let list = c.args.list.now in
    when_false [] (each_stretch (λ (from to marks : ℕ). cond (held_in v hold from to) (hatch_says b from to) []) list) (ltb 65535 hold) (le-ltb 65535 hold c.if-hold-gt65535.false) (left_none (stretch_none (λ (from to marks : ℕ). cond (held_in v hold from to) (hatch_says b from to) []) c.loop-left.left.now c.in_default.len_below) c.loop-left.invariant)
