-- `steps::strip` meets its contract: the run edit takes the mark's bit off the range, and the mark's bit is the mark.
use mathlib.Core.Path.{refl}
use native.Mathlib.Omega.{arith}
use Rattle.styles.specs.Bits.{with_bit}
use Rattle.runs.proofs.BehindLaws.{spare_behind}
use Rattle.tank.proofs.Shape.{all_spare}
use Rattle.tank.proofs.AlterLaws.{alter_can}
use Rattle.runs.specs.Runs.{changing}
use Rattle.tank.proofs.LayLaws.{bit_is}
use Rattle.tank.proofs.StripLaws.{strip_done}
use Rattle.tank.proofs.steps.strip.Goals as goal

pub alter-n-requires : goal.alter-n-requires
alter-n-requires c =
    let there = c.requires.there in
    let few = c.requires.range.laid.few in
    rw (bit_is c.args.i (omega arith) c.with_bit-bit.ensures)
    (alter_can c.requires.range (changing 0 (with_bit c.args.i 0)) _ _ refl refl)

pub returns : goal.returns
returns c =
    let there = c.requires.there in
    let few = c.requires.range.laid.few in
    strip_done c.args.start c.args.end c.args.i c.requires _ _ _
    (rw (bit_is c.args.i (omega arith) c.with_bit-bit.ensures) at c.alter-n.ensures.joined)
    (spare_behind (all_spare 514) c.alter-n.ensures.same_behind) c.alter-n.auto.olens c.alter-n.auto.osets
