-- `Tanks::runs` meets its contract: no such tank, or the head's count, which in a sound state is that of the maximal stretches.
use Rattle.tanks.specs.declared.Count.{Count}
use Rattle.tanks.proofs.AskLaws.{asked_past, asked_in, runs_said}
use Rattle.tanks.proofs.Tanks.runs.Goals as goal

pub returns-then-tank-ge8 : goal.returns-then-tank-ge8
returns-then-tank-ge8 c = asked_past Count.Refused Count.Counts c.args.tank _ c.if-tank-ge8.true

pub returns : goal.returns
returns c =
    let h = c.if-tank-ge8.false in
    asked_in Count.Refused Count.Counts c.args.tank _ _ h (runs_said c.args.self c.args.tank h c.requires)
