-- A party is taken where it is at least so much in their order.
use native.Mathlib.Omega.{arith}
use borrow.Author.Tests.{le-leb, lt-leb}
use Rattle.styles.specs.Order.{rank}
use Rattle.saved.proofs.words.party_at.Goals as goal

pub returns-then-least-rank : goal.returns-then-least-rank
returns-then-least-rank c = let a = c.args in rw (le-leb a.least (rank a.who) (omega (arith, c.rank.ensures, c.if-least-rank.true)))

pub returns : goal.returns
returns c = let a = c.args in rw (lt-leb a.least (rank a.who) (omega (arith, c.rank.ensures, c.if-least-rank.false)))
