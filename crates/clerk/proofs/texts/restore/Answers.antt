-- The tanks are those of the text or as they were, and all that is kept stays.
use mathlib.Core.Path.{refl, ap₂}
use Rattle.answers.proofs.Laws.{adds_as}
use Rattle.answers.specs.Replies.{restored_says}
use Rattle.clerk.proofs.texts.restore.Goals as goal

pub returns : goal.returns
returns c =
    let r = c.restore-r.ensures in
    record { sound = r.sound; settled = c.requires.sound.1; is = r.is; keeps = refl; answer = adds_as (ap₂ restored_says r.number_is r.line_is) c.restored_or-k.ensures }
