-- By the op.
use Rattle.clerk.specs.Calls.{both_kind}
use Rattle.clerk.proofs.strips.both_kind.Goals as goal

pub returns-in-OpenSet : goal.returns-in-OpenSet
unfolding both_kind
returns-in-OpenSet c = rw c.in-OpenSet.is

pub returns-in-Plan : goal.returns-in-Plan
unfolding both_kind
returns-in-Plan c = rw c.in-Plan.is

pub returns-in-Strip : goal.returns-in-Strip
unfolding both_kind
returns-in-Strip c = rw c.in-Strip.is
