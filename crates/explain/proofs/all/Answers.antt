-- As many reads as turns were made, each of a line, a body or less, lead from the beginning to where the run is.
use borrow.Author.Rules.{rules}
use mathlib.Core.Bool.{true≢false}
use mathlib.Core.Path.{sym, ap, subst}
use native.Mathlib.Omega.{arith}
use Rattle.clerk.proofs.Ends.{leads_none, leads_on, runs_as}
use Rattle.clerk.specs.Desk.{Settled}
use Rattle.clerk.specs.declared.Stand.{Stand}
use Rattle.script.specs.Bodies.{Fits}
use Rattle.explain.proofs.all.Goals as goal

pub loop-init : goal.loop-init
loop-init c = (search rules, search rules, search rules, search rules, leads_none _)

pub next_part-spot-requires : goal.next_part-spot-requires
next_part-spot-requires c = c.loop.invariant.3

pub turn_at-e-requires : goal.turn_at-e-requires
turn_at-e-requires c =
    let w = c.loop.invariant in
    let p = c.next_part-spot.ensures in
    let f = c.fresh-stand.ensures in
    let room = c.requires.most_body_in_bounds in
    record {
      sound = (w.0, subst (λ (st : Stand). Settled st.side) (sym f) w.1, subst (λ (st : Stand). Fits st.inlet c.loop.body) (sym f) w.2, ap (λ (st : Stand). st.over) f);
      most_body_in_bounds = (omega (arith, room.0), omega (arith, room.1), p.0, omega (arith, p.1, p.2));
    }

pub returns-then-after : goal.returns-then-after
returns-then-after c =
    let w = c.loop.invariant in
    let e = c.turn_at-e.ensures in
    runs_as _ _ e.ready.sound c.standing.ensures (leads_on _ c.fresh-stand.ensures w.4 e c.if-after.true) (λ q. absurd (true≢false q))

pub loop-preserved : goal.loop-preserved
loop-preserved c =
    let w = c.loop.invariant in
    let e = c.turn_at-e.ensures in
    (e.ready.sound, e.ready.settled, e.ready.fits, c.next_part-spot.ensures.2, leads_on _ c.fresh-stand.ensures w.4 e c.if-after.false)

pub returns : goal.returns
returns c = let w = c.loop in runs_as _ _ w.invariant.0 c.standing-2.ensures w.invariant.4 (λ e. omega arith)
