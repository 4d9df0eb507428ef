-- The list has room, and ends where the marked part does.
use mathlib.Core.Path.{◌∙◌}
use native.Mathlib.Omega.{arith}
use lib.ListN.{replicate}
use Rattle.styles.specs.declared.Party.TheVariants.{Plant}
use Rattle.glance.proofs.Ends.{listed_count, listed_few, listed_end}
use Rattle.glance.proofs.strips.marked_end.Goals as goal

pub returns : goal.returns
returns c =
    let l = c.list_whole-l.ensures in
    c.last_end.ensures ∙ listed_end c.args.s c.requires.0 c.args.tank c.requires.1 Plant (replicate 1536 0) _ _ (omega arith) (l.value, l.out_after)
