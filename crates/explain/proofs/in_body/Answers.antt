-- The line is empty.
use mathlib.Core.Path.{ap}
use Rattle.script.specs.declared.Line.{Line}
use Rattle.script.specs.declared.Reader.{Reader}
use Rattle.explain.proofs.in_body.Goals as goal

pub returns : goal.returns
returns c = let i = c.args.i in ap {B = Reader} (λ (l : Line). record { line = l; call = i.call; newlines = i.reader.newlines }) c.empty_line.ensures
