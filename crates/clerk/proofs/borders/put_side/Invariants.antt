-- `put_side` meets its contract: an anchor to a turn, that of the lowest bit; what is left to say stays the same.
use Prim.Native.Nat.{◌<◌, ◌^◌}
use mathlib.Core.Path.{◌≡◌}
use lib.Count.{ones}
use lib.ListN.{length}
use Rattle.styles.specs.Bits.{pick}
use Rattle.lists.specs.Anchors.{anchors_of}
use Rattle.answers.specs.Replies.{anchors_say}
use Rattle.answers.proofs.Laws.{Left}
use Rattle.clerk.proofs.borders.put_side.Given as goal

abbrev pub invariant-loop-left : goal.invariant-loop-left
invariant-loop-left l = (length l.out ≡ length l.initial.out) × (l.left < 2 ^ 64) × Left l.initial.out l.initial.k (anchors_say (anchors_of l.pos l.side (pick l.marks l.initial.left))) l.k l.out (anchors_say (anchors_of l.pos l.side (pick l.marks l.left)))

abbrev pub decreases-loop-left : goal.decreases-loop-left
decreases-loop-left l = ones l.left
