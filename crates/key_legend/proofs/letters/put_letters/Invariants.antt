-- The first i letters stand, and the others are to come.
use Rattle.key_names.specs.Names.{names_of}
use Rattle.key_legend.proofs.Drawn.{Lettered}
use Rattle.key_legend.proofs.letters.put_letters.Given as goal

abbrev pub invariant-loop-i : goal.invariant-loop-i
invariant-loop-i l = Lettered (names_of l.names) l.keys l.letters l.i
