-- `anchors::settled` meets its contract: something is left here, or nothing comes, or the next boundary has it.
use native.Mathlib.Omega.{arith}
use Rattle.lists.proofs.CursorLaws.{settles_here, settles_end, settles_next}
use Rattle.lists.proofs.anchors.settled.Goals as goal

pub returns-then-c-gt0 : goal.returns-then-c-gt0
returns-then-c-gt0 c = settles_here c.requires.0.formed.laid c.args.c c.requires.1 (omega arith)

pub returns-then-c-gt0-2 : goal.returns-then-c-gt0-2
returns-then-c-gt0-2 c = settles_here c.requires.0.formed.laid c.args.c c.requires.1 (omega arith)

pub returns-then-c-t : goal.returns-then-c-t
returns-then-c-t c = settles_end c.requires.0.formed.laid c.args.c c.requires.1 (omega arith)

pub returns : goal.returns
returns c = settles_next c.requires.0.formed.laid c.args.c c.requires.1 (omega arith) (omega arith) _ c.following.ensures
