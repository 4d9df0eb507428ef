-- `seen_for_insert` meets its contract: nothing in an untouched tank, else what the neighbours have in common of the party's marks.
use Prim.Native.Nat.{ℕ}
use mathlib.Core.Path.{ap, ◌∙◌}
use native.Mathlib.Omega.{arith}
use lib.Bits.{bit_and}
use lib.ListN.{get_or, take}
use lib.Pow.{pow_pos}
use Rattle.styles.specs.Bits.{pick}
use Rattle.tanks.specs.Pool.{no_head}
use Rattle.tanks.proofs.LookLaws.{can_walk, few_in, insert_marks, insert_small, insert_none}
use Rattle.tanks.proofs.look.seen_for_insert.Goals as goal

pub own_bits-own-requires : goal.own_bits-own-requires
own_bits-own-requires c = let p = c.requires.0 in (p.inside, few_in p)

pub common_in-requires : goal.common_in-requires
common_in-requires c = can_walk c.requires.0

pub returns-then-h : goal.returns-then-h
returns-then-h c =
    let a = c.args in
    let e = c.both.ensures ∙ ap (λ (x : ℕ). bit_and x c.own_bits-own.result) c.common_in.ensures in (
      ap (pick (take (get_or a.heads a.t no_head).marks a.table.marks)) e
          ∙ insert_marks c.requires.0 a.who a.pos _ c.requires.1 c.if-h.true c.own_bits-own.ensures,
      omega (arith, e, insert_small c.requires.0 a.who a.pos c.own_bits-own.result),
    )

pub returns : goal.returns
returns c =
    let a = c.args in
    (insert_none c.requires.0 a.who a.pos c.if-h.false, pow_pos (get_or a.heads a.t no_head).marks)
