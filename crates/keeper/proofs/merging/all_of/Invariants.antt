-- The merge stays in form.
use Rattle.keeper_file.specs.Merging.{Sound}
use Rattle.keeper.proofs.merging.all_of.Given as goal

abbrev pub invariant-loop : goal.invariant-loop
invariant-loop l = Sound l.merge
