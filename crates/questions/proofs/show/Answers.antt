-- `show` meets its contract: a match on the winner.
use Rattle.questions.specs.Questions.{shown_of}
use mathlib.Core.Path.{sym, ap, ◌∙◌}
use Rattle.questions.proofs.show.Goals as goal

pub returns-in-Some : goal.returns-in-Some
returns-in-Some c = c.show_mark.ensures ∙ sym (ap (shown_of 0) c.in-Some.is)
