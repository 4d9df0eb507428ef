-- The bytes from the index on, read after the number so far, give what the whole text does; that is the number by its value (`number_from_lem`).
use mathlib.Core.Path.{◌≡◌}
use lib.ListN.{drop}
use Rattle.text.proofs.Steps.{number_from}
use Rattle.text.proofs.number.Given as goal

abbrev pub invariant-loop-c : goal.invariant-loop-c
invariant-loop-c l = number_from l.base l.v (drop l.c-index l.s) ≡ number_from l.base 0 l.s
