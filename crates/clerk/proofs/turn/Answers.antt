-- The end of the input, or some bytes.
use mathlib.Core.Path.{◌∙◌, sym}
use lib.Seq.{length-take-le}
use Rattle.clerk.proofs.Ends.{reads_none, reads_some}
use Rattle.clerk.proofs.turn.Goals as goal

pub returns-then-n-eq0 : goal.returns-then-n-eq0
returns-then-n-eq0 c = reads_none c.closed.ensures

pub returns : goal.returns
returns c =
    let whole = length-take-le c.heard-n.result c.heard-n.new.buf c.heard-n.ensures in
    reads_some (λ e. c.if-n-eq0.false (sym whole ∙ e)) c.eat.ensures
