-- The lowest bit of what is left of the set is the next mark of the set; each is written behind those before it.
use Rattle.std.proofs.Common.{◌≡◌, ◌+◌, ◌-◌, ◌^◌, ◌<◌, ◌++◌, take, drop, replicate}
use lib.Count.{ones}
use Rattle.styles.specs.Bits.{pick}
use Rattle.styles.specs.Marks.{blank}
use Rattle.styles.proofs.table.styles_of.Given as goal

abbrev pub invariant-loop-w : goal.invariant-loop-w
invariant-loop-w l =
    (l.s < 2 ^ l.n)
    × (ones l.s + l.w ≡ l.held)
    × (pick (take l.n l.table) l.s ≡ drop l.w (pick (take l.n l.table) l.set))
    × (l.marks ≡ take l.w (pick (take l.n l.table) l.set) ++ replicate (64 - l.w) blank)
