-- `padded` meets its contract. The loop's invariant: the first i bytes are the name's. Assumes nothing.
use mathlib.Core.Path.{◌≡◌}
use mathlib.Core.List.{◌++◌}
use Prim.Native.Nat.{◌-◌}
use lib.ListN.{take}
use Rattle.config.specs.Names.{zeros}
use Rattle.config.proofs.padded.Given as goal

abbrev pub invariant-loop-i : goal.invariant-loop-i
invariant-loop-i l = l.name ≡ take l.i l.key ++ zeros (32 - l.i)
