-- `anchors::first_anchor` meets its contract: at boundary 0 the marks of the first run start.
use Rattle.lists.proofs.CursorLaws.{first_is}
use Rattle.lists.proofs.anchors.first_anchor.Goals as goal

pub returns : goal.returns
returns c = first_is c.requires.formed.laid _ c.boundary.ensures
