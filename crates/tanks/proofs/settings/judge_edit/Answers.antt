-- `judge_edit` meets its contract: the share of the party that makes the edit decides first.
use mathlib.Core.Path.{refl, sym, ◌∙◌}
use Rattle.tanks.proofs.settings.judge_edit.Goals as goal

pub returns-then-passes_share : goal.returns-then-passes_share
returns-then-passes_share c = rw (sym c.maker-who.ensures, sym c.passes_share.ensures ∙ c.if-passes_share.true) refl

pub returns : goal.returns
returns c = rw (sym c.maker-who.ensures, sym c.passes_share.ensures ∙ c.if-passes_share.false) c.judge.ensures
