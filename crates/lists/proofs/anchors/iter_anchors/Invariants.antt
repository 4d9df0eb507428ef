-- After j turns the slice holds the first j anchors in front of what it held, and the cursor stands before the next.
use mathlib.Core.Path.{◌≡◌}
use Rattle.laws.proofs.Lists.{stored}
use Rattle.tank.specs.State.{view}
use Rattle.lists.specs.Anchors.{anchors}
use Rattle.lists.proofs.AnchorListLaws.{nth, Standing}
use Rattle.lists.proofs.anchors.iter_anchors.Given as goal

abbrev pub invariant-loop-j : goal.invariant-loop-j
invariant-loop-j l = record {
  standing : Standing l.t l.j l.c;
  out_is : l.out ≡ stored (nth (anchors (view l.t))) l.fn.out l.j;
}
