-- The lowest bit of what is left of the set is the next mark of the set, and the last one with the key is the greatest.
use Rattle.std.proofs.Common.{◌≡◌, ◌^◌, ◌<◌, take}
use lib.Count.{ones, count_trailing_zeros}
use Rattle.styles.specs.Bits.{pick}
use Rattle.styles.proofs.WalkLaws.{Walked}
use Rattle.styles.proofs.table.winner_of.Given as goal

abbrev pub invariant-loop-i : goal.invariant-loop-i
invariant-loop-i l = (l.s < 2 ^ 64) × (l.i ≡ count_trailing_zeros 64 l.s) × Walked l.key (pick (take l.n l.table) l.set) (pick (take l.n l.table) l.s) l.best

abbrev pub decreases-loop-i : goal.decreases-loop-i
decreases-loop-i l = ones l.s
