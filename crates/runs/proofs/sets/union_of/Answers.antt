use mathlib.Core.Path.{◌≡◌, refl, sym, ap, ◌∙◌}
use native.Mathlib.Omega.{arith}
use lib.Bits.{bit_or}
use lib.ListN.{get_or}
use Rattle.runs.specs.Runs.{runs}
use Rattle.runs.specs.Gather.{gather}
use Rattle.runs.proofs.GatherLaws.{gather_more}
use Rattle.runs.proofs.sets.union_of.Goals as goal

pub loop-k-init : goal.loop-k-init
unfolding runs gather
loop-k-init c = λ lens. refl

pub loop-k-preserved : goal.loop-k-preserved
loop-k-preserved c = λ lens. ap (bit_or (get_or c.args.sets.now c.loop-k.k 0)) (c.loop-k.invariant lens) ∙ sym (gather_more lens _ _)

pub returns : goal.returns
returns c lens =
    let e : c.loop-k.k ≡ c.args.n = omega arith in
    rw (← e) (c.loop-k.invariant lens)
