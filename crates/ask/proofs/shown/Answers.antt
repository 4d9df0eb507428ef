-- `shown` meets its contract: the tank taken out, and of that what the party is shown, which is all of it where the other has no mark.
use mathlib.Core.Path.{sym, ap, ◌∙◌}
use Rattle.tank.specs.Rules.{shown_to}
use Rattle.tank.proofs.NarrowLaws.{only_unshared}
use Rattle.ask.proofs.shown.Goals as goal

pub returns-then-shared : goal.returns-then-shared
returns-then-shared c = record { is = c.only.ensures.1 ∙ ap (shown_to c.args.who) c.take-t.ensures.is; sound = c.only.ensures.0 }

pub returns : goal.returns
returns c =
    record {
      is = only_unshared c.take-t.ensures.sound c.args.who (sym c.shared.ensures ∙ c.if-shared.false) ∙ ap (shown_to c.args.who) c.take-t.ensures.is;
      sound = c.take-t.ensures.sound;
    }
