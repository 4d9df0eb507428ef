-- `Tanks::length` meets its contract: no such tank, or the head's length, which is that of the tank's meaning.
use Rattle.tanks.specs.declared.Count.{Count}
use Rattle.tanks.proofs.AskLaws.{asked_past, asked_in, length_said}
use Rattle.tanks.proofs.Tanks.length.Goals as goal

pub returns-then-tank-ge8 : goal.returns-then-tank-ge8
returns-then-tank-ge8 c = asked_past Count.Refused Count.Counts c.args.tank _ c.if-tank-ge8.true

pub returns : goal.returns
returns c =
    let h = c.if-tank-ge8.false in
    asked_in Count.Refused Count.Counts c.args.tank _ _ h (length_said c.args.self c.args.tank h)
