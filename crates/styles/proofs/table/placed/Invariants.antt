-- Each mark passed comes before the identity; the first that does not is where the walk ends. An identity that a sorted table carries stands there.
use Rattle.std.proofs.Common.{◌≡◌, ◌+◌, take, drop}
use Rattle.styles.specs.Marks.{place_of}
use Rattle.styles.proofs.table.placed.Given as goal

abbrev pub invariant-loop-i : goal.invariant-loop-i
invariant-loop-i l = place_of l.id (drop l.i (take l.n l.table)) + l.i ≡ place_of l.id (take l.n l.table)
