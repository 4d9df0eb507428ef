-- `accepts` meets its contract. The loop's invariant: the first pairs keep the rule and the sum is that of their shares; each is at most 512, so it fits.
use Prim.Native.Nat.{◌*◌, ◌≤◌}
use mathlib.Core.Path.{◌≡◌}
use mathlib.Core.Bool.{true}
use Rattle.tanks.specs.Settings.{all_keep_rule, shares}
use Rattle.tanks.proofs.settings.accepts.Given as goal

abbrev pub invariant-loop-s : goal.invariant-loop-s
invariant-loop-s l = (l.sum ≡ shares l.fn.settings l.s-index) × (l.sum ≤ 512 * l.s-index) × (all_keep_rule l.fn.settings l.s-index ≡ true)
