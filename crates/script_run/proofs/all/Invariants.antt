-- The output buffer keeps its length.
use Rattle.std.proofs.Common.{◌≡◌, length}
use Rattle.script_run.proofs.all.Given as goal

abbrev pub invariant-loop : goal.invariant-loop
invariant-loop l = length l.out ≡ length l.initial.out
