-- Another party, and all else is kept.
use Rattle.clerk.specs.Desk.{Settled, with_party, desk_side, desk_says}
use mathlib.Core.Path.{sym, ap, subst, ◌∙◌}
use Rattle.clerk.proofs.desk.party.Goals as goal

pub returns : goal.returns
unfolding desk_side desk_says
returns c =
    let a = c.args in
    record {
      settled = subst Settled (sym c.with_party-next.ensures) (record { sets = c.requires.settled.sets; log = c.requires.settled.log });
      is = c.with_party-next.ensures ∙ ap (with_party a.side) c.party_of-who.ensures;
      answer = c.accept-k.ensures;
    }
