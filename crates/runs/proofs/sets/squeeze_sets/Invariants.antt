-- `sets::squeeze_sets` meets its contract. The invariant: from bit i on the gaps are closed.
use mathlib.Core.Path.{◌≡◌}
use Rattle.styles.proofs.SqueezeLaws.{partly}
use Rattle.runs.specs.Gather.{Renumbered}
use Rattle.runs.proofs.sets.squeeze_sets.Given as goal

abbrev pub invariant-loop-i : goal.invariant-loop-i
invariant-loop-i l = Renumbered (λ s r. r ≡ partly l.i l.mask s) l.n l.initial.sets l.sets
