use native.Mathlib.Omega.{arith}
use Prim.Native.Nat.{ℕ, max}
use mathlib.Core.Path.{◌≡◌, refl, ap, ◌∙◌}
use mathlib.Core.List.{List}
use Rattle.runs.specs.Positions.{sum_below}
use Rattle.runs.proofs.SumLaws.{sum_more}
use Rattle.tanks.specs.declared.Setting.{Setting}
use Rattle.tanks.specs.Settings.{share_of, claim, held_after}
use Rattle.tanks.specs.Pool.{runs_in}
use Rattle.tanks.proofs.SettingLaws.{small_more}
use Rattle.tanks.proofs.settings.claimed.Goals as goal

pub loop-u-init : goal.loop-u-init
unfolding sum_below
loop-u-init c = refl

-- what the two calls come to
counted : (settings : List Setting) (u : ℕ) {held m n : ℕ} → m ≡ max held (share_of settings u) → held ≡ n → m ≡ max n (share_of settings u)
counted settings u e f = e ∙ ap (λ (x : ℕ). max x (share_of settings u)) f

pub overflow_add-sum : goal.overflow_add-sum
overflow_add-sum c =
    let l = c.loop-u in
    omega (arith, counted c.args.settings l.u c.max-sum.ensures c.held_after-runs.ensures, small_more c.args.settings c.args.heads c.args.t c.args.n l.u c.requires (omega arith))

pub loop-u-preserved : goal.loop-u-preserved
loop-u-preserved c =
    let l = c.loop-u in
    omega (arith, counted c.args.settings l.u c.max-sum.ensures c.held_after-runs.ensures, sum_more (claim c.args.settings (held_after (runs_in c.args.heads) c.args.t c.args.n)) l.u)

pub returns : goal.returns
returns c = let e : c.loop-u.u ≡ 8 = omega arith in rw (← e) c.loop-u.invariant
