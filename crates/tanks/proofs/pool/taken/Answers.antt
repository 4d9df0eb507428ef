use borrow.Author.Rules.{rules}
use native.Mathlib.Omega.{arith}
use native.Mathlib.Numerals.{add-one}
use Prim.Native.Nat.{◌+◌, ◌≤◌}
use mathlib.Core.Path.{◌≡◌, refl, ◌∙◌}
use lib.ListN.{length, get_or, replicate}
use Rattle.laws.proofs.Lists.{stored}
use Rattle.runs.proofs.SumLaws.{sum_next}
use Rattle.tank.proofs.Unique.{tank_eq}
use Rattle.tanks.specs.declared.Run.{Run}
use Rattle.tanks.specs.Pool.{no_run, runs_in, runs_below, tank_in}
use Rattle.tanks.proofs.SliceLaws.{own_stored}
use Rattle.tanks.proofs.pool.taken.Goals as goal

pub loop-i-init : goal.loop-i-init
loop-i-init c = (omega (arith, c.start-at.ensures, sum_next (runs_in c.args.heads) c.args.t 8 c.requires.0, c.requires.1), refl, refl)

pub loop-i-preserved : goal.loop-i-preserved
loop-i-preserved c = let l = c.loop-i in (l.invariant.0, rw (l.invariant.1, add-one l.i), rw (l.invariant.2, add-one l.i))

pub returns : goal.returns
unfolding tank_in
returns c =
    let l = c.loop-i in
    let hs = c.args.heads in
    let pool = c.args.pool in
    let t = c.args.t in
    let e : l.i ≡ runs_in hs t = omega arith in
    let s = c.start-at.ensures in
    let long : length pool ≡ 512 = search rules in
    let inside : runs_below hs t + runs_in hs t ≤ length pool = omega (arith, sum_next (runs_in hs) t 8 c.requires.0, c.requires.1, long) in
    let few : runs_in hs t ≤ 514 = omega (arith, inside, long) in
    tank_eq _ (tank_in hs pool c.args.table t) refl refl refl refl
    (l.invariant.1 ∙ (λ j. stored (λ k. (get_or pool (s j + k) no_run).len) (replicate 514 0) (e j)) ∙ own_stored hs pool t inside (λ (r : Run). r.len) few)
    (l.invariant.2 ∙ (λ j. stored (λ k. (get_or pool (s j + k) no_run).set) (replicate 514 0) (e j)) ∙ own_stored hs pool t inside (λ (r : Run). r.set) few)
    refl
