-- As many reads as turns were made lead from the beginning to where the run is.
use borrow.Author.Rules.{rules}
use mathlib.Core.Bool.{true≢false}
use mathlib.Core.Path.{sym, ap, subst}
use native.Mathlib.Omega.{arith}
use Rattle.clerk.proofs.Ends.{leads_none, leads_on, runs_as}
use Rattle.clerk.specs.Desk.{Settled}
use Rattle.clerk.specs.declared.Stand.{Stand}
use Rattle.script.specs.Bodies.{Fits}
use Rattle.clerk.proofs.all.Goals as goal

pub loop-init : goal.loop-init
loop-init c = (search rules, search rules, search rules, leads_none _)

pub turn-e-requires : goal.turn-e-requires
turn-e-requires c =
    let w = c.loop.invariant in
    let f = c.fresh.ensures in
    let room = c.requires.most_body_in_bounds in
    record {
      sound = (w.0, subst (λ (st : Stand). Settled st.side) (sym f) w.1, subst (λ (st : Stand). Fits st.inlet c.loop.body) (sym f) w.2, ap (λ (st : Stand). st.over) f);
      most_body_in_bounds = (omega (arith, room.0), omega (arith, room.1));
    }

pub returns-then-after : goal.returns-then-after
returns-then-after c =
    let e = c.turn-e in
    runs_as _ _ e.ensures.ready.sound c.standing.ensures (leads_on _ c.fresh.ensures c.loop.invariant.3 e.ensures c.if-after.true) (λ q. absurd (true≢false q))

pub loop-preserved : goal.loop-preserved
loop-preserved c =
    let e = c.turn-e.ensures in
    (e.ready.sound, e.ready.settled, e.ready.fits, leads_on _ c.fresh.ensures c.loop.invariant.3 e c.if-after.false)

pub returns : goal.returns
returns c = let w = c.loop in runs_as _ _ w.invariant.0 c.standing-2.ensures w.invariant.3 (λ e. omega arith)
