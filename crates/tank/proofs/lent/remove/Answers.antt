-- `lent::remove` meets its contract: an identity that the table has not is nowhere; else its bit's stretch is its stretch.
use mathlib.Core.Path.{refl, sym, ◌∙◌}
use native.Mathlib.Omega.{arith}
use Rattle.styles.specs.Bits.{with_bit}
use Rattle.styles.proofs.TableLaws.{placed_there, placed_not}
use Rattle.runs.specs.Runs.{changing}
use Rattle.runs.proofs.BehindLaws.{spare_behind}
use Rattle.tank.proofs.AlterLaws.{alter_can}
use Rattle.tank.proofs.LayLaws.{bit_is}
use Rattle.tank.proofs.StripLaws.{strip_done}
use Rattle.tank.proofs.RemoveLaws.{remove_4, remove_none, place_inside, can_scan, can_strip, still_touched, remove_done}
use Rattle.tank.proofs.LentLaws.{kept_leaves, plain_leaves}
use Rattle.tank.proofs.lent.remove.Goals as goal

pub returns-then-h-last : goal.returns-then-h-last
returns-then-h-last c =
    let g = remove_4 c.requires.sound c.args.id c.args.last c.if-h-last.true in
    kept_leaves {h = c.args.h} refl g.0 refl g.1

pub returns-in_default : goal.returns-in_default
returns-in_default c =
    let (at, gone) = placed_not c.args.id _ _ (sym c.in_default.is ∙ c.placed.ensures) in
    let q = remove_none c.requires.sound c.args.id c.args.last c.if-h-last.false gone in
    kept_leaves {h = c.args.h} c.kept.ensures q.0 refl q.1

pub back-first-requires : goal.back-first-requires
back-first-requires c =
    let (at, there) = placed_there c.args.id _ _ c.in-Ok.ensures in
    can_scan c.requires.sound c.args.id c.args.last c.if-h-last.false _ at there

pub alter-n-requires : goal.alter-n-requires
alter-n-requires c =
    let (at, there) = placed_there c.args.id _ _ c.in-Ok.ensures in
    let few = c.requires.sound.formed.laid.few in
    let bit = bit_is c.in-Ok.place (omega (arith, place_inside c.requires.sound c.args.id c.args.last c.if-h-last.false _ at there)) c.with_bit-bit.ensures in
    let from = rw bit at c.back-first.ensures in
    let can = can_strip c.requires.sound c.args.id c.args.last c.if-h-last.false _ at there _ from in
    rw bit (
      c.requires.sound.formed.laid.canon,
      alter_can can.range (changing 0 (with_bit c.in-Ok.place 0)) _ _ c.requires.olens_514 c.requires.osets_514,
    )

pub trim-requires : goal.trim-requires
trim-requires c =
    let (at, there) = placed_there c.args.id _ _ c.in-Ok.ensures in
    let few = c.requires.sound.formed.laid.few in
    let bit = bit_is c.in-Ok.place (omega (arith, place_inside c.requires.sound c.args.id c.args.last c.if-h-last.false _ at there)) c.with_bit-bit.ensures in
    let from = rw bit at c.back-first.ensures in
    let can = can_strip c.requires.sound c.args.id c.args.last c.if-h-last.false _ at there _ from in
    let l = c.alter-n in
    let d =
    strip_done _ _ _ can _ _ _ (rw bit at l.ensures.joined) (spare_behind c.requires.blank l.ensures.same_behind) (l.auto.olens ∙ c.requires.olens_514) (l.auto.osets ∙ c.requires.osets_514) in
    let a = d.0.most in
    let b = d.0.sets_514 in
    omega arith

pub returns : goal.returns
returns c =
    let (at, there) = placed_there c.args.id _ _ c.in-Ok.ensures in
    let few = c.requires.sound.formed.laid.few in
    let bit = bit_is c.in-Ok.place (omega (arith, place_inside c.requires.sound c.args.id c.args.last c.if-h-last.false _ at there)) c.with_bit-bit.ensures in
    let from = rw bit at c.back-first.ensures in
    let can = can_strip c.requires.sound c.args.id c.args.last c.if-h-last.false _ at there _ from in
    let l = c.alter-n in
    let d =
    strip_done _ _ _ can _ _ _ (rw bit at l.ensures.joined) (spare_behind c.requires.blank l.ensures.same_behind) (l.auto.olens ∙ c.requires.olens_514) (l.auto.osets ∙ c.requires.osets_514) in
    let q = c.trim.ensures _ _ d.0 (still_touched c.requires.sound c.args.id c.args.last c.if-h-last.false _ at there _ from d) in
    let made = remove_done c.requires.sound c.args.id c.args.last c.if-h-last.false _ at there _ from d q.trimmed in
    plain_leaves q.number_is q.changed_is made.0 q.table_fits q.shown_is (q.first_is ∙ made.1)
