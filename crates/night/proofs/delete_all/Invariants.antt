-- `delete_all` meets its contract. The invariant: the ranges from i on are deleted.
use Rattle.night.proofs.ApplyLaws.{AppliedFrom}
use Rattle.night.proofs.delete_all.Given as goal

abbrev pub invariant-loop-i : goal.invariant-loop-i
invariant-loop-i l = AppliedFrom l.initial.u l.tank l.plan l.i l.u
