use native.Mathlib.Omega.{arith}
use Prim.Native.Nat.{ℕ}
use mathlib.Core.Path.{◌≡◌, refl, ap}
use Rattle.runs.specs.Runs.{runs}
use Rattle.saved.specs.Saved.{runs_text}
use Rattle.saved.proofs.Laying.{lays_none, lays_then, lays_more, lays_as}
use Rattle.saved.proofs.Pieces.{runs_more}
use borrow.Author.Rules.{rules}
use Rattle.saved.proofs.writing.lay_runs.Goals as goal

pub loop-j-init : goal.loop-j-init
unfolding runs_text runs
loop-j-init c = (refl, lays_none)

pub loop-j-preserved : goal.loop-j-preserved
loop-j-preserved c =
    let w = c.loop-j in
    let a = c.args in
    (search rules, lays_more (omega arith) (lays_as (runs_more a.lens.now a.sets.now w.j) (lays_then w.invariant.1 c.lay_run-k.ensures)))

pub returns : goal.returns
returns c =
    let w = c.loop-j in
    let a = c.args in
    let e : w.j ≡ a.n = omega arith in lays_more (omega arith) (lays_as (ap (λ (i : ℕ). runs_text (runs a.lens.now a.sets.now i)) e) w.invariant.1)
