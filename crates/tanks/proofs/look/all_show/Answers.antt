-- `all_show` meets its contract: no position hides the value from the party.
use Prim.Native.Nat.{ℕ}
use mathlib.Core.Path.{sym, ap, ◌∙◌}
use mathlib.Core.Bool.{Bool, not}
use lib.Bits.{bit_and}
use Rattle.runs.specs.Runs.{set_at}
use Rattle.runs.specs.Scan.{shows, passes}
use Rattle.runs.proofs.ScanLaws.{all_is, all_ext}
use Rattle.tanks.specs.Looks.{run_list}
use Rattle.tanks.proofs.LookLaws.{can_walk, few_in}
use Rattle.tanks.proofs.RangeLaws.{within_in, value_seen}
use Rattle.tanks.proofs.look.all_show.Goals as goal

pub own_bits-own-requires : goal.own_bits-own-requires
own_bits-own-requires c = let p = c.requires.0 in (p.inside, few_in p)

pub key_bits-keyed-requires : goal.key_bits-keyed-requires
key_bits-keyed-requires c = few_in c.requires.0

pub value_bits-valued-requires : goal.value_bits-valued-requires
value_bits-valued-requires c = few_in c.requires.0

pub some_in-requires : goal.some_in-requires
some_in-requires c = let p = c.requires in (can_walk p.0, within_in p.0 p.1 p.2)

pub returns : goal.returns
unfolding passes
returns c =
    let a = c.args in
    let shown : ℕ → Bool = λ p. shows (bit_and c.own_bits-own.result c.key_bits-keyed.result) c.value_bits-valued.result (set_at (run_list a.heads a.pool a.t) p) in
    ap not c.some_in.ensures
    ∙ sym (all_is shown a.start a.end)
    ∙ all_ext shown _ a.start a.end (λ p g h. value_seen c.requires.0 a.who c.own_bits-own.ensures a.key a.value p c.key_bits-keyed.ensures c.value_bits-valued.ensures)
