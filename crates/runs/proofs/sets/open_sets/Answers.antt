use mathlib.Core.Path.{◌≡◌, ◌∙◌}
use native.Mathlib.Omega.{arith}
use lib.ListN.{get_or}
use Rattle.styles.proofs.BitLaws.{open_bit_fits}
use Rattle.runs.proofs.MapLaws.{renumber_none, renumber_more}
use Rattle.runs.proofs.sets.open_sets.Goals as goal

pub loop-k-init : goal.loop-k-init
loop-k-init c = renumber_none _ _

pub loop-k-preserved : goal.loop-k-preserved
loop-k-preserved c =
    let f = open_bit_fits c.args.i (get_or c.loop-k.sets c.loop-k.k 0)
    (omega (arith, c.requires.small c.loop-k.k (omega arith), c.loop-k.invariant.rest c.loop-k.k (omega arith)))
    in
    renumber_more _ c.loop-k.k _ c.loop-k.invariant (omega arith) (c.open_bit.ensures ∙ f)

pub returns : goal.returns
returns c =
    let e : c.loop-k.k ≡ c.args.n = omega arith in
    rw (← e) c.loop-k.invariant
