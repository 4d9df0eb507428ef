-- What is put is what stands up to the first dot.
use mathlib.Core.Path.{ap}
use native.Mathlib.Omega.{arith}
use lib.ListN.{length}
use Rattle.text.proofs.Finding.{front_length, front_part, front_inside}
use Rattle.script.proofs.PutLaws.{puts_all, puts_as, puts_more}
use Rattle.refusals.proofs.put_filled.Goals as goal

pub slice_bounds-put-end : goal.slice_bounds-put-end
slice_bounds-put-end c = front_inside 46 c.args.cell.now 0 _ c.find-to.ensures (omega arith)

pub put-requires : goal.put-requires
put-requires c = omega (arith, ap length (front_part 46 c.args.cell.now 0 _ c.find-to.ensures), front_length 46 c.args.cell.now)

pub returns : goal.returns
returns c = puts_more (omega (arith, ap length (front_part 46 c.args.cell.now 0 _ c.find-to.ensures), front_length 46 c.args.cell.now)) (puts_as (front_part 46 c.args.cell.now 0 _ c.find-to.ensures) (puts_all c.put.ensures))
