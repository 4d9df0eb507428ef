-- The text that is kept afterwards is the one that stood there already, where none was written.
use Rattle.std.proofs.Common.{arith}
use Rattle.keeper_file.proofs.Telling.{same_tells}
use Rattle.keeper.proofs.kept.written.Goals as goal

pub returns : goal.returns
returns c =
    λ place h buffer inside renews.
    record { inside = inside; tells = same_tells place h _ buffer c.args.r c.args.next.now renews (omega (arith, c.if-r-gt0.false)) c.if-r.false }
