-- What is read back is what the text says, where no refusal stands beside it.
use Rattle.std.proofs.Common.{arith}
use Rattle.keeper_file.proofs.Telling.{back_tells}
use Rattle.keeper.proofs.kept.told.Goals as goal

pub returns-clause-tells : goal.returns-clause-tells
returns-clause-tells c = let r = c.read_back-b in back_tells _ c.args.text.now r.result r.ensures (omega (arith, c.if-b-gt0.false))
