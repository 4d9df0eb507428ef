-- `anchors::following` meets its contract: inside a run no boundary has an anchor, and at its end the two sets tell which.
use native.Mathlib.Omega.{arith}
use Rattle.lists.proofs.CursorLaws.{next_fits, follows}
use Rattle.lists.proofs.anchors.following.Goals as goal

pub overflow_add-c : goal.overflow_add-c
overflow_add-c c =
    let f = c.requires.0.formed.laid in
    let l = f.small in
    record { fits = omega (arith, next_fits f c.args.c c.requires.1 c.requires.2) }

pub returns : goal.returns
returns c = follows c.requires.0.formed.laid c.args.c c.requires.1 c.requires.2 _ c.boundary.ensures
