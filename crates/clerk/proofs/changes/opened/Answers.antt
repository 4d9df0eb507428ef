-- The edit that the call asks for, and its answer.
use mathlib.Core.List.{List}
use mathlib.Core.Path.{ap, subst}
use Rattle.answers.proofs.Laws.{adds_as}
use Rattle.answers.specs.Replies.{accepted_says}
use Rattle.clerk.specs.Calls.{changed, change_says}
use Rattle.tanks.specs.Promises.{Opens}
use Rattle.tanks.specs.declared.Setting.{Setting}
use Rattle.clerk.proofs.changes.opened.Goals as goal

pub returns : goal.returns
unfolding changed change_says
returns c =
    let opens = subst (λ (st : List Setting). Opens st c.open-o.result) c.settings.ensures c.open-o.ensures in
    record { sound = opens.sound; is = opens.is; answer = adds_as (ap accepted_says opens.number_is) c.accept-k.ensures }
