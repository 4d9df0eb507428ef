-- `plus` meets its contract: below the bound a number is the same with a sign, and from there on none.
use Rattle.text.proofs.Integers.{plus_good}
use borrow.Author.Rules.{rules}
use borrow.Author.Tests.{le-ltb}
use Rattle.text.specs.Signed.{plus_of}
use Rattle.text.proofs.plus.Goals as goal

pub returns-in_err-n : goal.returns-in_err-n
unfolding plus_of
returns-in_err-n c = rw c.in_err-n.was c.from_residual.ensures

pub returns-then-n-bound : goal.returns-then-n-bound
unfolding plus_of
returns-then-n-bound c = rw c.in_ok-n.was (plus_good _ _ (search rules) c.if-n-bound.true)

pub returns : goal.returns
unfolding plus_of
returns c = rw c.in_ok-n.was (simp (le-ltb _ _ c.if-n-bound.false))
