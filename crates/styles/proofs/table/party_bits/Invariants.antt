-- From the last mark down: a bit for each.
use Rattle.std.proofs.Common.{◌≡◌, take, drop}
use Rattle.styles.specs.Marks.{is_of}
use Rattle.styles.proofs.Built.{mask_of}
use Rattle.styles.proofs.table.party_bits.Given as goal

abbrev pub invariant-loop-i : goal.invariant-loop-i
invariant-loop-i l = l.out ≡ mask_of (is_of l.who) (drop l.i (take l.n l.table))
