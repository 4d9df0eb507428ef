-- `open` meets its contract: eight fresh tanks are sound under settings that keep the rule, and eight pairs (1, 1) keep it.
use borrow.Author.Rules.{rules}
use mathlib.Core.Path.{sym, ◌∙◌}
use Rattle.tanks.proofs.OpeningLaws.{opens, opens_2}
use Rattle.tanks.proofs.open.Goals as goal

pub returns-then-accepts : goal.returns-then-accepts
returns-then-accepts c = rw c.fresh.ensures (opens c.args.settings (search rules) (sym c.accepts.ensures ∙ c.if-accepts.true))

pub returns : goal.returns
returns c = rw c.fresh-2.ensures (opens_2 c.args.settings (sym c.accepts.ensures ∙ c.if-accepts.false))
