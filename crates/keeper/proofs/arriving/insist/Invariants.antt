-- What has come keeps its length.
use Rattle.std.proofs.Common.{◌≡◌, length}
use Rattle.keeper.proofs.arriving.insist.Given as goal

abbrev pub invariant-loop : goal.invariant-loop
invariant-loop l = length l.bytes ≡ length l.initial.bytes
