-- One place of the legend changes, and all else is kept.
use Prim.Native.Nat.{ℕ}
use Rattle.clerk.specs.Desk.{Settled, with_legend, desk_side, desk_says}
use Rattle.script.specs.Args.{number_at}
use Rattle.strip.specs.Legend.{with_letter}
use mathlib.Core.Path.{sym, ap, ap₂, subst, ◌∙◌}
use Rattle.clerk.proofs.strips.legend.Goals as goal

pub returns : goal.returns
unfolding desk_side desk_says
returns c =
    let a = c.args in
    record {
      settled = subst Settled (sym c.with_legend-next.ensures) (record { sets = c.requires.settled.sets; log = c.requires.settled.log });
      is =
          c.with_legend-next.ensures
          ∙ ap (with_legend a.side)
          (c.with_letter-after.ensures ∙ ap₂ (λ (x y : ℕ). with_letter a.side.legend (number_at a.call 0) x y) c.key_of.ensures c.letter_of.ensures);
      answer = c.accept-k.ensures;
    }
