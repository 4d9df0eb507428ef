-- What the edit comes to is what the rules say of it; what it shows are bits of the table before it, and a refused one shows none.
use Rattle.answers.proofs.Laws.{adds_as}
use Rattle.clerk.proofs.Edited.{same_says}
use Rattle.styles.proofs.UnionLaws.{pick_none}
use Rattle.styles.specs.Answers.{styles_of}
use Rattle.tanks.proofs.PartsLaws.{bits_fit}
use lib.Pow.{pow_pos}
use mathlib.Core.Path.{ap, ◌∙◌}
use Rattle.clerk.proofs.editing.edited.Goals as goal

pub answered-requires-clause-marks_bound : goal.answered-requires-clause-marks_bound
answered-requires-clause-marks_bound c = bits_fit c.args.tanks.now c.args.tank c.place-u.result c.place-u.ensures.0 c.requires.sound c.in-Ok.shown.bits c.in-Ok.ensures.fits

pub answered-requires-in-Err-clause-marks_bound : goal.answered-requires-in-Err-clause-marks_bound
answered-requires-in-Err-clause-marks_bound c = bits_fit c.args.tanks.now c.args.tank c.place-u.result c.place-u.ensures.0 c.requires.sound 0 (pow_pos _)

pub returns-in-Err : goal.returns-in-Err
returns-in-Err c =
    let d = c.in-Err.ensures.done in
    record {
      sound = d.called.sound;
      is = d.called.is;
      answer = adds_as (same_says c.args.edit (c.number.ensures ∙ d.called.number_is) (ap styles_of (pick_none _) ∙ d.styles_are) d.first_is) c.answered-in-Err.ensures;
    }
