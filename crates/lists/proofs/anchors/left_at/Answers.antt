-- `anchors::left_at` meets its contract: a set of marks has as many as its bits.
use native.Mathlib.Omega.{arith}
use Rattle.lists.proofs.CursorLaws.{left_count}
use Rattle.lists.proofs.anchors.left_at.Goals as goal

pub returns : goal.returns
returns c =
    let a = c.count.ensures in
    let b = c.count-2.ensures in
    (omega (arith, a.0, b.0, left_count c.requires.0.formed.laid c.args.c c.requires.1), omega (arith, a.1, b.1))
