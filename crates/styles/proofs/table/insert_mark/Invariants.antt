-- The mark at hand goes in at k and the one that stood there is at hand next: the table with it put in stays the same.
use Rattle.std.proofs.Common.{◌≡◌, length}
use Rattle.styles.specs.Marks.{insert_at}
use Rattle.styles.proofs.table.insert_mark.Given as goal

abbrev pub invariant-loop-k : goal.invariant-loop-k
invariant-loop-k l = (length l.table ≡ 64) × (insert_at l.k l.carried l.table ≡ insert_at l.i l.initial.carried l.initial.table)
