-- `shown_bits` meets its contract: the other party's bits are taken off the set.
use Prim.Native.Nat.{ℕ, ◌-◌}
use mathlib.Core.Path.{ap, ◌∙◌}
use native.Mathlib.Omega.{arith}
use lib.Bits.{and_le_l}
use lib.ListN.{take}
use Rattle.styles.specs.Bits.{pick}
use Rattle.tank.proofs.NarrowLaws.{shown_bits}
use Rattle.tank.proofs.shown_bits.Goals as goal

pub overflow_sub-result : goal.overflow_sub-result
overflow_sub-result c = omega (arith, c.both.ensures, and_le_l c.args.set c.party_bits-gone.result)

pub returns : goal.returns
returns c = (
  omega (arith, c.requires.1, c.both.ensures, and_le_l c.args.set c.party_bits-gone.result),
  ap (λ (x : ℕ). pick (take c.args.n c.args.table) (c.args.set - x)) c.both.ensures
      ∙ shown_bits c.args.who (take c.args.n c.args.table) _ (rw c.other.ensures at c.party_bits-gone.ensures) c.args.set,
)
