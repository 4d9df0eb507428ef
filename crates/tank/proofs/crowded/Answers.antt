-- `crowded` meets its contract: the bits of each party counted, and one more for the mark's.
use mathlib.Core.Path.{◌∙◌}
use Rattle.styles.specs.declared.Party.TheVariants.{Plant, Lab}
use Rattle.styles.specs.Marks.{is_of}
use Rattle.tank.proofs.CrowdLaws.{mask_count, crowded_plant, crowded_lab}
use Rattle.tank.proofs.crowded.Goals as goal

pub returns-in-Plant : goal.returns-in-Plant
returns-in-Plant c =
    c.too_many.ensures
    ∙ crowded_plant c.args.mark _ c.requires.1 c.requires.2 _ _
    (mask_count (is_of Plant) _ _ _ c.party_bits.ensures c.count-plant.ensures.0)
    (mask_count (is_of Lab) _ _ _ c.party_bits-2.ensures c.count-lab.ensures.0)
    c.in-Plant.is

pub returns-in-Lab : goal.returns-in-Lab
returns-in-Lab c =
    c.too_many-in-Lab.ensures
    ∙ crowded_lab c.args.mark _ c.requires.1 c.requires.2 _ _
    (mask_count (is_of Plant) _ _ _ c.party_bits.ensures c.count-plant.ensures.0)
    (mask_count (is_of Lab) _ _ _ c.party_bits-2.ensures c.count-lab.ensures.0)
    c.in-Lab.is
