-- The clerk stands where the input left it, with nothing waiting.
use mathlib.Core.Path.{sym, ap, subst}
use Rattle.script.specs.Bodies.{Fits}
use Rattle.clerk.specs.declared.Stand.{Stand}
use Rattle.clerk.specs.Desk.{Settled}
use Rattle.keeper.proofs.calling.ended.Goals as goal

pub closed-e-requires : goal.closed-e-requires
closed-e-requires c =
    let f = c.fresh.ensures in
    record { sound = (c.blank.ensures, subst (λ (st : Stand). Settled st.side) (sym f) c.requires.0, subst (λ (st : Stand). Fits st.inlet c.args.body.now) (sym f) c.requires.1, ap (λ (st : Stand). st.over) f); piece_room_in_bounds = c.requires.2 }
