-- `StyleConfigMap::place` meets its contract. The loop's invariant: none of the first i entries has the name, so the rest decides. Assumes nothing.
use mathlib.Core.Path.{◌≡◌}
use Prim.Native.Nat.{◌+◌}
use lib.ListN.{drop}
use Rattle.config.specs.Table.{place}
use Rattle.config.specs.Meaning.{configured}
use Rattle.config.proofs.StyleConfigMap.place.Given as goal

abbrev pub invariant-loop-i : goal.invariant-loop-i
invariant-loop-i l = l.i + place l.key (drop l.i (configured l.self).entries) ≡ place l.key (configured l.self).entries
