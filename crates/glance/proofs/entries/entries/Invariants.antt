-- One entry to a turn; what is left to say stays the same.
use Rattle.std.proofs.Common.{◌-◌}
use Rattle.key_names.specs.Names.{names_of}
use Rattle.answers.proofs.Laws.{Left}
use Rattle.glance.specs.Glance.{each_from, of_eight, entry_says}
use Rattle.glance.proofs.entries.entries.Given as goal

abbrev pub invariant-loop-i : goal.invariant-loop-i
invariant-loop-i l = Left l.initial.out l.initial.at (of_eight (entry_says (names_of l.names) l.keys l.letters)) l.at l.out (each_from (entry_says (names_of l.names) l.keys l.letters) (8 - l.i) l.i)
