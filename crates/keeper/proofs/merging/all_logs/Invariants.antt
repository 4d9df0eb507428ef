-- The merge stays in form.
use Rattle.keeper_file.specs.Merging.{Sound}
use Rattle.keeper.proofs.merging.all_logs.Given as goal

abbrev pub invariant-loop-i : goal.invariant-loop-i
invariant-loop-i l = Sound l.merge
