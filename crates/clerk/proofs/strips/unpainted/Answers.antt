-- There is a refusal, and it is told.
use Rattle.clerk.proofs.Painting.{short_says}
use Rattle.clerk.specs.Calls.{strip_look}
use Rattle.script.specs.Args.{number_at}
use Rattle.styles.specs.declared.Party.TheVariants.{Plant}
use Rattle.tanks.specs.Looks.{shown_in}
use Rattle.clerk.proofs.strips.unpainted.Goals as goal

pub returns : goal.returns
unfolding strip_look
returns c =
    let a = c.args in
    short_says (number_at a.call 0) (number_at a.call 2) (number_at a.call 3) (shown_in a.heads a.pool a.table (number_at a.call 0) Plant) a.legend.keys a.legend.letters (number_at a.call 1)
    c.requires.can_ask.1 c.paint_parts-number.ensures.value c.refuse.ensures
