-- `advance` meets its contract: the next of those that are made, or the first of those that are made anew.
use native.Mathlib.Omega.{arith}
use Rattle.ask.proofs.RecordLaws.{turn_made, turn_anew}
use Rattle.ask.proofs.records.advance.Goals as goal

pub overflow_add-c : goal.overflow_add-c
overflow_add-c c = record { fits = omega (arith, c.requires.1.ready.within) }

pub turned-requires : goal.turned-requires
turned-requires c = omega (arith, c.requires.1.ready.few, c.if-c.true)

pub returns-then-c : goal.returns-then-c
returns-then-c c = turn_made c.requires.1 c.if-c.true c.turned.result c.turned.ensures

pub made_ahead-requires : goal.made_ahead-requires
made_ahead-requires c = let p = c.requires in (p.0, p.1.walks)

pub returns : goal.returns
returns c = turn_anew c.requires.1 c.if-c.false c.made_ahead.result c.made_ahead.ensures
