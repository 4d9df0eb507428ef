-- The lowest of the marks so far.
use Rattle.std.proofs.Common.{◌≡◌, take}
use Rattle.key_legend.specs.Keys.{lowest_of}
use Rattle.key_legend.proofs.keys.first_in.Given as goal

abbrev pub invariant-loop-m : goal.invariant-loop-m
invariant-loop-m l = l.first ≡ lowest_of l.whose l.least (take l.m-index l.m-items)
