-- Each number fits where it is put.
use Rattle.std.proofs.Common.{◌+◌, arith, w64}
use mir.Facts.{to_z_pos}
use Rattle.timing.proofs.mark.Goals as goal

pub returns : goal.returns
returns c = rw (to_z_pos w64 {n = c.args.b + 1} (omega arith))
