-- `claimed` meets its contract. The loop's invariant: the sum is that of what the first u tanks claim; each claims at most 512, so it fits.
use mathlib.Core.Path.{◌≡◌}
use Rattle.tanks.specs.Settings.{claims, held_after}
use Rattle.tanks.specs.Pool.{runs_in}
use Rattle.tanks.proofs.settings.claimed.Given as goal

abbrev pub invariant-loop-u : goal.invariant-loop-u
invariant-loop-u l = l.sum ≡ claims l.settings (held_after (runs_in l.heads) l.t l.n) l.u
