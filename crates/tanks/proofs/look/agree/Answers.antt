-- `agree` meets its contract: no position has others of the party's bits than the first.
use Prim.Native.Nat.{ℕ}
use mathlib.Core.Path.{sym, ap, ◌∙◌}
use mathlib.Core.Bool.{Bool, not}
use lib.Bits.{bit_and}
use lib.Dec.{eqb}
use Rattle.runs.specs.Runs.{set_at}
use Rattle.runs.specs.Scan.{passes}
use Rattle.runs.proofs.ScanLaws.{all_is, all_ext}
use Rattle.tanks.specs.Looks.{run_list}
use Rattle.tanks.proofs.LookLaws.{can_walk, few_in}
use Rattle.tanks.proofs.RangeLaws.{within_in, same_seen}
use Rattle.tanks.proofs.look.agree.Goals as goal

pub own_bits-own-requires : goal.own_bits-own-requires
own_bits-own-requires c = let p = c.requires.0 in (p.inside, few_in p)

pub set_in-requires : goal.set_in-requires
set_in-requires c = can_walk c.requires.0

pub some_in-requires : goal.some_in-requires
some_in-requires c = let p = c.requires in (can_walk p.0, within_in p.0 p.1 p.2)

pub returns : goal.returns
unfolding passes
returns c =
    let a = c.args in
    let own = c.own_bits-own.result in
    let set : ℕ → ℕ = λ p. set_at (run_list a.heads a.pool a.t) p in
    let first = c.both-first.ensures ∙ ap (λ (x : ℕ). bit_and x own) c.set_in.ensures in
    let same : ℕ → Bool = λ p. eqb (bit_and (set p) own) c.both-first.result in
    ap not c.some_in.ensures
    ∙ sym (all_is same a.start a.end)
    ∙ all_ext same _ a.start a.end (λ p g h. ap (eqb (bit_and (set p) own)) first ∙ sym (same_seen c.requires.0 a.who c.own_bits-own.ensures p a.start))
