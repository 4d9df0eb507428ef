-- Line after line: what the lines that are left say is what all of them say.
use mathlib.Core.Path.{◌≡◌}
use Prim.Native.Nat.{◌-◌}
use lib.ListN.{drop}
use Rattle.keeper_file.specs.Group.{field_in}
use Rattle.keeper_file.proofs.group.field.Given as goal

abbrev pub invariant-loop-passed : goal.invariant-loop-passed
invariant-loop-passed l = field_in (l.lines - l.passed) l.name (drop l.at l.bytes) ≡ field_in l.lines l.name (drop l.from l.bytes)
