-- `seen_at` meets its contract: of the bits at the position those of the party's marks.
use Prim.Native.Nat.{ℕ}
use mathlib.Core.Path.{ap, ◌∙◌}
use native.Mathlib.Omega.{arith}
use lib.Bits.{bit_and}
use lib.ListN.{get_or, take}
use Rattle.styles.specs.Bits.{pick}
use Rattle.tanks.specs.Pool.{no_head}
use Rattle.tanks.proofs.LookLaws.{can_walk, few_in, seen_small, seen_marks}
use Rattle.tanks.proofs.look.seen_at.Goals as goal

pub own_bits-own-requires : goal.own_bits-own-requires
own_bits-own-requires c = (c.requires.inside, few_in c.requires)

pub set_in-requires : goal.set_in-requires
set_in-requires c = can_walk c.requires

pub returns : goal.returns
returns c =
    let a = c.args in
    let e = c.both.ensures ∙ ap (λ (x : ℕ). bit_and x c.own_bits-own.result) c.set_in.ensures in (
      ap (pick (take (get_or a.heads a.t no_head).marks a.table.marks)) e
          ∙ seen_marks a.heads a.pool a.table a.t a.who _ a.pos c.own_bits-own.ensures,
      omega (arith, e, seen_small c.requires c.own_bits-own.result a.pos),
    )
