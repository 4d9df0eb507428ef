-- No read leaves more than 65,536 bytes held.
use Rattle.std.proofs.Common.{◌≡◌, ◌≤◌, length}
use Rattle.keeper.proofs.arriving.arrivals.Given as goal

abbrev pub invariant-loop-turn : goal.invariant-loop-turn
invariant-loop-turn l = (length l.bytes ≡ length l.initial.bytes) × (l.held.bytes ≤ 65536)
