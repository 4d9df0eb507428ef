-- All of the input, from eight fresh tanks, with nothing kept beside them, and the start of a script.
use mathlib.Core.Path.{sym, subst}
use native.Mathlib.Omega.{arith}
use Rattle.script.specs.declared.Inlet.{Inlet}
use Rattle.script.specs.Bodies.{Fits}
use Rattle.clerk.proofs.Ends.{runs_whole}
use Rattle.explain.proofs.run.Goals as goal

pub all-requires : goal.all-requires
all-requires c =
    let room = c.body_room-body in
    record { sound = (c.open-o.ensures.sound, c.empty.ensures.1, subst (λ (i : Inlet). Fits i room.result) (sym c.begin_inlet.ensures) (omega arith)); most_body_in_bounds = (omega (arith, room.ensures), omega (arith, c.large_buffer-out.ensures)) }

pub returns : goal.returns
returns c = runs_whole _ c.open-o.ensures.is c.begin_inlet.ensures c.empty.ensures.0 (omega (arith, c.large_buffer-out.ensures)) (omega (arith, c.large_buffer-out.ensures)) c.all.ensures
