-- `lists::stretches_needed` meets its contract: each test by its number, then the count of the runs' list.
use mathlib.Core.Path.{ap, ◌∙◌}
use native.Mathlib.Omega.{arith}
use borrow.Author.Rules.{rules}
use lib.ListN.{length}
use Rattle.tank.specs.State.{view}
use Rattle.lists.proofs.ListLaws.{needed_empty, needed_over, needed_is, list_is}
use Rattle.lists.proofs.stretches_needed.Goals as goal

pub returns-then-end-start : goal.returns-then-end-start
returns-then-end-start c = needed_empty c.args.start c.args.end (view c.args.t) c.if-end-start.true

pub returns-then-t-end : goal.returns-then-t-end
unfolding view
returns-then-t-end c = needed_over c.args.start c.args.end (view c.args.t) (omega arith) c.if-t-end.true

pub need_range-needed-requires : goal.need_range-needed-requires
need_range-needed-requires c =
    let f = c.requires.formed.laid in
    (search rules, f.canon, omega (arith, f.sum))

pub returns : goal.returns
unfolding view
returns c =
    needed_is c.args.start c.args.end (view c.args.t) _ (omega arith) (omega arith)
    (c.need_range-needed.ensures ∙ ap length (list_is c.requires.formed.laid 0 c.args.start c.args.end))
