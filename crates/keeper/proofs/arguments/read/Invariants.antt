-- Each turn takes one argument more, and there are at most 4,096.
use Rattle.std.proofs.Common.{◌≤◌}
use Rattle.keeper.proofs.arguments.read.Given as goal

abbrev pub invariant-loop-i : goal.invariant-loop-i
invariant-loop-i l = (l.count ≤ 4096) × (l.g.next ≤ 4096)
