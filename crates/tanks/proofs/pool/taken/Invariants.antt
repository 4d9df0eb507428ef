-- `taken` meets its contract. The loop's invariant: the first i lengths and sets are those of the pool from the tank's place on.
use Prim.Native.Nat.{◌+◌, ◌≤◌}
use mathlib.Core.Path.{◌≡◌}
use lib.ListN.{get_or}
use Rattle.laws.proofs.Lists.{stored}
use Rattle.tanks.specs.Pool.{no_run}
use Rattle.tanks.proofs.pool.taken.Given as goal

abbrev pub invariant-loop-i : goal.invariant-loop-i
invariant-loop-i l =
    (l.at + l.n ≤ 512)
    × (l.lens ≡ stored (λ k. (get_or l.pool (l.at + k) no_run).len) l.initial.lens l.i)
    × (l.sets ≡ stored (λ k. (get_or l.pool (l.at + k) no_run).set) l.initial.sets l.i)
