-- `Tanks::has_style` meets its contract: no such tank, or the head's word, which is that of the tank's meaning.
use Rattle.tanks.specs.declared.YesNo.{YesNo}
use Rattle.tanks.proofs.AskLaws.{asked_past, asked_in, touched_said}
use Rattle.tanks.proofs.Tanks.has_style.Goals as goal

pub returns-then-tank-ge8 : goal.returns-then-tank-ge8
returns-then-tank-ge8 c = asked_past YesNo.Refused YesNo.Says c.args.tank _ c.if-tank-ge8.true

pub returns : goal.returns
returns c =
    let h = c.if-tank-ge8.false in
    asked_in YesNo.Refused YesNo.Says c.args.tank _ _ h (touched_said c.args.self c.args.tank h)
