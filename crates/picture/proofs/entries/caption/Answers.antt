-- One behind the other.
use Rattle.picture.specs.Picture.{caption_says}
use Rattle.picture.proofs.entries.caption.Goals as goal

pub returns : goal.returns
unfolding caption_says
returns c = c.text_at.ensures
