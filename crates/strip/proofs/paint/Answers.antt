-- `paint` meets its contract: the parts of the state that the tank stands in are painted for it.
use mathlib.Core.Path.{sym, ◌∙◌}
use lib.ListN.{length}
use Rattle.runs.specs.Stretches.{in_front}
use Rattle.styles.specs.declared.Party.TheVariants.{Plant}
use Rattle.tank.specs.Rules.{when_accepted}
use Rattle.ask.proofs.Standing.{can_ask, asked_there}
use Rattle.strip.specs.Strip.{strip, strip_number}
use Rattle.strip.proofs.StripLaws.{by_tank}
use Rattle.strip.proofs.paint.Goals as goal

pub paint_parts-requires : goal.paint_parts-requires
paint_parts-requires c = can_ask c.args.s c.args.tank c.place.result c.place.ensures.0 c.requires

pub returns : goal.returns
returns c =
    let a = c.args in
    let n = strip_number a.tank a.k (length a.out.now) in record {
      value = c.paint_parts.ensures.value;
      out_after = c.paint_parts.ensures.out_after
          ∙ by_tank a.tank a.k (length a.out.now) _ a.out.now
          ∙ asked_there a.s a.tank c.place.result c.place.ensures.0 Plant a.out.now (λ v. when_accepted n (in_front (strip v a.keys a.letters a.start a.k) a.out.now) a.out.now)
          ∙ sym (by_tank a.tank a.k (length a.out.now) _ a.out.now);
    }
