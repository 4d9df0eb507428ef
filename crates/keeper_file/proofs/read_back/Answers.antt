-- The first line, and behind it what a restore hands back.
use mathlib.Core.Path.{refl, sym, ◌∙◌}
use Prim.Native.Nat.{◌-◌, ◌^◌}
use native.Mathlib.Omega.{arith}
use Rattle.text.proofs.Prefix.{rest_part}
use Rattle.text_lines.specs.Lines.{decimal_from}
use Rattle.text_lines.proofs.Laws.{taken_inside}
use Rattle.keeper_file.specs.File.{place_name}
use Rattle.keeper_file.proofs.Filing.{back_none, back_wrong, back_good}
use Rattle.keeper_file.proofs.read_back.Goals as goal

pub returns-in_default : goal.returns-in_default
returns-in_default c = back_none c.args.s c.args.bytes.now c.not_read.result c.requires (sym c.in_default.is ∙ c.number.ensures) c.not_read.ensures

pub slice_bounds-restore-count : goal.slice_bounds-restore-count
slice_bounds-restore-count c =
    let place_known = sym c.in-Some.is ∙ c.number.ensures in
    taken_inside place_name (decimal_from 0 (2 ^ 64 - 1)) c.args.bytes.now 0 c.in-Some.place c.in-Some.start (sym place_known)

pub slice_bounds-restore-start : goal.slice_bounds-restore-start
slice_bounds-restore-start c =
    let place_known = sym c.in-Some.is ∙ c.number.ensures in
    taken_inside place_name (decimal_from 0 (2 ^ 64 - 1)) c.args.bytes.now 0 c.in-Some.place c.in-Some.start (sym place_known)

pub returns-then-r-gt0 : goal.returns-then-r-gt0
returns-then-r-gt0 c =
    let place_known = sym c.in-Some.is ∙ c.number.ensures in
    back_wrong c.args.s c.args.bytes.now c.in-Some.place c.in-Some.start place_known c.restore-r.result _ (rest_part c.in-Some.start c.args.bytes.now) c.restore-r.ensures c.not_read-then-r-gt0.result c.counted.result c.if-r-gt0.true c.counted.ensures c.not_read-then-r-gt0.ensures

pub returns : goal.returns
returns c =
    let place_known = sym c.in-Some.is ∙ c.number.ensures in
    back_good c.args.s c.args.bytes.now c.in-Some.place c.in-Some.start place_known c.restore-r.result _ (rest_part c.in-Some.start c.args.bytes.now) c.restore-r.ensures _ (omega (arith, c.if-r-gt0.false)) refl
