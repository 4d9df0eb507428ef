-- `lists::whole_needed` meets its contract: the count of the runs' list.
use native.Mathlib.Omega.{arith}
use mathlib.Core.Path.{ap, ◌∙◌}
use borrow.Author.Rules.{rules}
use lib.ListN.{length}
use Rattle.tank.specs.State.{view}
use Rattle.lists.proofs.ListLaws.{list_is}
use Rattle.lists.proofs.whole_needed.Goals as goal

pub need_marked-requires : goal.need_marked-requires
need_marked-requires c =
    let f = c.requires.formed.laid in
    (search rules, f.canon, omega (arith, f.sum))

pub returns : goal.returns
unfolding view
returns c = c.need_marked.ensures ∙ ap length (list_is c.requires.formed.laid 1 0 c.args.t.length)
