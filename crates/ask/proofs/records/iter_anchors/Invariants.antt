-- After j turns the slice holds the first j anchors in front of what it held, and what is made ahead begins with the next.
use mathlib.Core.Path.{◌≡◌}
use Rattle.laws.proofs.Lists.{stored}
use Rattle.lists.proofs.AnchorListLaws.{nth}
use Rattle.ask.specs.Records.{records_of}
use Rattle.ask.proofs.RecordLaws.{Standing}
use Rattle.ask.proofs.records.iter_anchors.Given as goal

abbrev pub invariant-loop-j : goal.invariant-loop-j
invariant-loop-j l = record {
  standing : Standing l.p l.j l.c;
  out_is : l.out ≡ stored (nth (records_of l.p)) l.fn.out l.j;
}
