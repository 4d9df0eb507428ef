-- A number between two texts.
use Rattle.picture.specs.Elements.{colour_says}
use Rattle.picture.proofs.elements.colour.Goals as goal

pub returns : goal.returns
unfolding colour_says
returns c = c.between.ensures
