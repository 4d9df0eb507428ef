-- One behind the other.
use Rattle.picture.specs.Picture.{patch_says}
use Rattle.picture.proofs.entries.patch.Goals as goal

pub returns : goal.returns
unfolding patch_says
returns c = c.rect.ensures
