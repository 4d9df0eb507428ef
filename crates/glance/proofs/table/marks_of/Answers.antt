-- The bits of the party's marks are counted, and the table has just the marks that are carried.
use mathlib.Core.Path.{◌∙◌, sym, ap}
use Rattle.styles.specs.Marks.{is_of}
use Rattle.tank.specs.Rules.{marks_of}
use Rattle.tank.proofs.CrowdLaws.{mask_count}
use Rattle.tank.proofs.Unique.{marks_carried}
use Rattle.glance.proofs.table.marks_of.Goals as goal

pub returns : goal.returns
returns c = c.wide.ensures ∙ mask_count (is_of c.args.who) _ _ _ c.party_bits.ensures c.count.ensures.0 ∙ sym (ap (marks_of c.args.who) (marks_carried c.requires.formed))
