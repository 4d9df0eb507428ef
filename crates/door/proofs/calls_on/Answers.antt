-- The clerk eats the script, from its start and with nothing kept.
use native.Mathlib.Omega.{arith}
use mathlib.Core.Path.{refl, sym, ap, subst, ◌∙◌}
use Rattle.script.specs.declared.Inlet.{Inlet}
use Rattle.script.specs.Bodies.{Fits}
use Rattle.clerk.specs.declared.Stand.{Stand}
use Rattle.clerk.specs.Desk.{Settled}
use Rattle.door.proofs.Calls.{first_course, runs_calls}
use Rattle.door.proofs.calls_on.Goals as goal

pub eat-e-requires : goal.eat-e-requires
eat-e-requires c =
    let f = c.fresh-stand.ensures in
    let room = c.body_room-body in
    record { sound = (c.requires.0, subst Settled (sym (ap (λ (x : Stand). x.side) f)) c.empty.ensures.1, subst (λ (i : Inlet). Fits i room.result) (sym (ap (λ (x : Stand). x.inlet) f ∙ c.begin_inlet-inlet.ensures)) (omega arith), ap (λ (x : Stand). x.over) f); most_body_in_bounds = (omega (arith, room.ensures), omega (arith, c.requires.1)) }

pub returns : goal.returns
returns c = runs_calls c.args.s c.args.calls.now c.eat-e.ensures (first_course c.args.s _ _ _ c.fresh-stand.ensures c.begin_inlet-inlet.ensures c.empty.ensures.0) c.requires.1 refl c.bad_line-line.ensures
