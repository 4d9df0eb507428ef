-- The output buffer keeps its length.
use Rattle.std.proofs.Common.{◌≡◌, length}
use Rattle.script_run.proofs.put_call.Given as goal

abbrev pub invariant-loop-i : goal.invariant-loop-i
invariant-loop-i l = length l.out ≡ length l.initial.out
