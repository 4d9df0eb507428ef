-- Each turn clears the lowest bit; as many bits further on in what is left is the bit asked for.
use Rattle.std.proofs.Common.{ℕ, ◌+◌, ◌-◌, ◌^◌, ◌<◌}
use lib.Count.{ones}
use Rattle.styles.specs.Bits.{NthAt}
use Rattle.styles.proofs.bits.nth_bit.Given as goal

abbrev pub invariant-loop-k : goal.invariant-loop-k
invariant-loop-k l = (l.j < ones l.s + l._k) × (l.s < 2 ^ 64) × ((i : ℕ) → NthAt l.s (l.j - l._k) i → NthAt l.set l.j i)
