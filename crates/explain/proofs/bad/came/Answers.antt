-- By the tests in their order.
use Rattle.script.specs.Cells.{field_of}
use Rattle.explain.proofs.Choices.{too_long, nothing_there, return_last, other_line}
use Rattle.explain.proofs.bad.came.Goals as goal

pub returns-then-line-gt64 : goal.returns-then-line-gt64
returns-then-line-gt64 c = too_long (field_of c.args.f) c.args.line.now c.if-line-gt64.true

pub returns-then-line-eq0 : goal.returns-then-line-eq0
returns-then-line-eq0 c = nothing_there (field_of c.args.f) c.args.line.now c.if-line-gt64.false c.if-line-eq0.true

pub returns-then-line-eq13 : goal.returns-then-line-eq13
returns-then-line-eq13 c = return_last (field_of c.args.f) c.args.line.now c.if-line-gt64.false c.if-line-eq0.false c.if-line-eq13.true

pub returns : goal.returns
returns c = other_line (field_of c.args.f) c.args.line.now _ c.if-line-gt64.false c.if-line-eq0.false c.if-line-eq13.false c.field_holds.ensures c.wrong_line.ensures
