-- Up to here all bytes are good, so what comes after them decides.
use mathlib.Core.Path.{◌≡◌}
use lib.ListN.{drop}
use Rattle.key_names.specs.Names.{all_in_name}
use Rattle.key_names.proofs.is_name.Given as goal

abbrev pub invariant-loop-c : goal.invariant-loop-c
invariant-loop-c l = all_in_name (drop l.c-index l.s) ≡ all_in_name l.s
