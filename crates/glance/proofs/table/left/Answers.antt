use native.Mathlib.Omega.{arith}
use mathlib.Core.Path.{◌≡◌, refl, ◌∙◌}
use Prim.Native.Nat.{◌-◌}
use Rattle.runs.specs.Positions.{sum_below}
use Rattle.runs.proofs.SumLaws.{sum_more, sum_next}
use Rattle.tanks.specs.Pool.{runs_in}
use Rattle.tanks.specs.Settings.{claim, claims}
use Rattle.glance.proofs.Laws.{left_is}
use Rattle.glance.proofs.table.left.Goals as goal

pub loop-u-init : goal.loop-u-init
unfolding sum_below
loop-u-init c = refl

pub overflow_sub-rest : goal.overflow_sub-rest
overflow_sub-rest c =
    let a = c.args.s in
    let l = c.loop-u in
    omega (arith, (let h : c.max-rest.result ≡ claim c.args.s.settings (runs_in c.args.s.heads) c.loop-u.u = c.max-rest.ensures in h), sum_next (claim a.settings (runs_in a.heads)) l.u 8 (omega arith), c.requires.sum, l.invariant)

pub loop-u-preserved : goal.loop-u-preserved
loop-u-preserved c =
    let a = c.args.s in
    let l = c.loop-u in
    let f = claim a.settings (runs_in a.heads) in
    omega (arith, (let h : c.max-rest.result ≡ claim c.args.s.settings (runs_in c.args.s.heads) c.loop-u.u = c.max-rest.ensures in h), sum_more f l.u, sum_next f l.u 8 (omega arith), c.requires.sum, l.invariant)

pub returns : goal.returns
returns c =
    let l = c.loop-u in
    let e : l.u ≡ 8 = omega arith in
    let rest : l.rest ≡ 512 - claims c.args.s.settings (runs_in c.args.s.heads) 8 = rw (← e) (omega (arith, l.invariant)) in
    rest ∙ left_is c.args.s c.requires
