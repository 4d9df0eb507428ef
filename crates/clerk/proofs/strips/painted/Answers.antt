-- The cells, or the refusal.
use Rattle.answers.proofs.Laws.{adds_as}
use Rattle.clerk.proofs.Painting.{strip_says_lem}
use Rattle.clerk.specs.Calls.{strip_look}
use Rattle.script.specs.Args.{number_at}
use Rattle.styles.specs.declared.Party.TheVariants.{Plant}
use Rattle.tanks.specs.Looks.{shown_in}
use lib.ListN.{replicate}
use mathlib.Core.Path.{refl}
use Rattle.clerk.proofs.strips.painted.Goals as goal

pub returns : goal.returns
unfolding strip_look
returns c =
    let a = c.args in
    adds_as
    (strip_says_lem (number_at a.call 0) (number_at a.call 2) (number_at a.call 3) (shown_in a.heads a.pool a.table (number_at a.call 0) Plant) a.legend.keys a.legend.letters (number_at a.call 1)
    (replicate 96 0) refl c.requires.can_ask.1 c.paint_parts-number.ensures.value c.paint_parts-number.ensures.out_after)
    c.strip_or.ensures
