-- `stretch_in` meets its contract: neighbours show the party the same marks where they have the same of its bits.
use Prim.Native.Nat.{ℕ}
use mathlib.Core.Path.{sym, ap, ◌∙◌}
use mathlib.Core.Bool.{Bool}
use native.Mathlib.Omega.{arith}
use Rattle.runs.specs.Positions.{first_of, last_of}
use Rattle.tanks.specs.Looks.{run_list, alike_by, shown_in}
use Rattle.tanks.proofs.LookLaws.{can_walk, few_in, shown_length}
use Rattle.tanks.proofs.RangeLaws.{total_in, alike_seen}
use Rattle.tanks.proofs.look.stretch_in.Goals as goal

pub own_bits-own-requires : goal.own_bits-own-requires
own_bits-own-requires c = let p = c.requires.0 in (p.inside, few_in p)

pub reach_in-requires : goal.reach_in-requires
reach_in-requires c = let p = c.requires in (can_walk p.0, omega (arith, p.1, total_in p.0))

pub returns : goal.returns
returns c =
    let a = c.args in
    let e = alike_seen c.requires.0 a.who c.own_bits-own.ensures in
    let n = total_in c.requires.0 ∙ sym (shown_length a.heads a.pool a.table a.t a.who) in (
      c.reach_in.ensures.0 ∙ ap (λ (f : ℕ → Bool). first_of f a.pos) e,
      c.reach_in.ensures.1
          ∙ ap (λ (m : ℕ). last_of (alike_by c.own_bits-own.result (run_list a.heads a.pool a.t)) m a.pos) n
          ∙ ap (λ (f : ℕ → Bool). last_of f (shown_in a.heads a.pool a.table a.t a.who).length a.pos) e,
    )
