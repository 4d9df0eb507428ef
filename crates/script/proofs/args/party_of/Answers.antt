-- By the number.
use borrow.Author.Tests.{eq-eqb, ne_eqb}
use Rattle.script.specs.Args.{party_by}
use Rattle.script.proofs.args.party_of.Goals as goal

pub returns-then-x-eq0 : goal.returns-then-x-eq0
unfolding party_by
returns-then-x-eq0 c = rw (eq-eqb _ _ c.if-x-eq0.true)

pub returns : goal.returns
unfolding party_by
returns c = rw (ne_eqb _ _ c.if-x-eq0.false)
