-- `show_mark` meets its contract: null shows nothing, any other value itself.
use mathlib.Core.Path.{sym, ◌∙◌}
use Rattle.questions.proofs.show_mark.Goals as goal

pub returns : goal.returns
returns c = rw (sym c.is_null.ensures ∙ c.if-is_null.false)
