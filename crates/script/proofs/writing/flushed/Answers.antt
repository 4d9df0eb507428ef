-- There is room behind what waits, or all of the buffer is room, or its last bytes are.
use borrow.Author.Rules.{rules}
use Rattle.script.proofs.PutLaws.{free_behind, free_front, free_held}
use Rattle.script.proofs.writing.flushed.Goals as goal

pub returns-then-at-out : goal.returns-then-at-out
returns-then-at-out c = let a = c.args in free_behind a.room a.at a.out.now (search rules) (search rules)

pub returns-then-out-le65536 : goal.returns-then-out-le65536
returns-then-out-le65536 c = let a = c.args in free_front a.room a.at a.out.now (search rules) (search rules) (search rules)

pub returns : goal.returns
returns c = let a = c.args in free_held a.room a.at a.out.now (search rules) (search rules) (search rules)
