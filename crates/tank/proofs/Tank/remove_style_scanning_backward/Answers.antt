-- `Tank::remove_style_scanning_backward` meets its contract: an identity that the table has not is nowhere; else its bit's stretch is its stretch.
use mathlib.Core.Path.{sym, ◌∙◌}
use native.Mathlib.Omega.{arith}
use Rattle.styles.proofs.TableLaws.{placed_there, placed_not}
use Rattle.tank.proofs.LayLaws.{bit_is}
use Rattle.tank.proofs.RemoveLaws.{remove_4, remove_none, place_inside, can_scan, can_strip, still_touched, remove_done}
use Rattle.tank.proofs.Tank.remove_style_scanning_backward.Goals as goal

pub returns-then-self-last : goal.returns-then-self-last
returns-then-self-last c =
    let made = remove_4 c.requires c.args.id c.args.last c.if-self-last.true in
    record { called = made.0; first_value = made.1 }

pub returns-in_default : goal.returns-in_default
returns-in_default c =
    let (at, gone) = placed_not c.args.id _ _ (sym c.in_default.is ∙ c.placed.ensures) in
    let made = remove_none c.requires c.args.id c.args.last c.if-self-last.false gone in
    record { called = made.0; first_value = made.1 }

pub back-first-requires : goal.back-first-requires
back-first-requires c =
    let (at, there) = placed_there c.args.id _ _ c.in-Ok.ensures in
    can_scan c.requires c.args.id c.args.last c.if-self-last.false _ at there

pub strip-requires : goal.strip-requires
strip-requires c =
    let (at, there) = placed_there c.args.id _ _ c.in-Ok.ensures in
    let few = c.requires.formed.laid.few in
    let bit = bit_is c.in-Ok.place (omega (arith, place_inside c.requires c.args.id c.args.last c.if-self-last.false _ at there)) c.with_bit-bit.ensures in
    let from = rw bit at c.back-first.ensures in
    can_strip c.requires c.args.id c.args.last c.if-self-last.false _ at there _ from

pub trim-requires : goal.trim-requires
trim-requires c =
    let (at, there) = placed_there c.args.id _ _ c.in-Ok.ensures in
    let few = c.requires.formed.laid.few in
    let bit = bit_is c.in-Ok.place (omega (arith, place_inside c.requires c.args.id c.args.last c.if-self-last.false _ at there)) c.with_bit-bit.ensures in
    let from = rw bit at c.back-first.ensures in
    (c.strip.ensures.0, still_touched c.requires c.args.id c.args.last c.if-self-last.false _ at there _ from c.strip.ensures)

pub returns : goal.returns
returns c =
    let (at, there) = placed_there c.args.id _ _ c.in-Ok.ensures in
    let few = c.requires.formed.laid.few in
    let bit = bit_is c.in-Ok.place (omega (arith, place_inside c.requires c.args.id c.args.last c.if-self-last.false _ at there)) c.with_bit-bit.ensures in
    let from = rw bit at c.back-first.ensures in
    let made = remove_done c.requires c.args.id c.args.last c.if-self-last.false _ at there _ from c.strip.ensures c.trim.ensures in
    record { called = made.0; first_value = made.1 }
