-- Where the clerk stands fits the room for a body, turn after turn.
use native.Mathlib.Omega.{arith}
use mathlib.Core.Path.{sym, ap, subst, ◌∙◌}
use borrow.Author.Rules.{rules}
use Rattle.script.specs.declared.Inlet.{Inlet}
use Rattle.script.specs.Bodies.{Fits}
use Rattle.clerk.specs.declared.Stand.{Stand}
use Rattle.clerk.specs.Desk.{Settled}
use Rattle.keeper.proofs.calling.all.Goals as goal

pub loop-init : goal.loop-init
loop-init c =
    let f = c.fresh-stand.ensures in
    let body = c.args.body.now in (
      search rules,
      search rules,
      subst (λ (st : Stand). Settled st.side) (sym f) c.empty.ensures.1,
      subst (λ (i : Inlet). Fits i body) (sym (ap (λ (st : Stand). st.inlet) f ∙ c.begin_inlet.ensures)) (omega arith),
    )

pub turn-stand-requires : goal.turn-stand-requires
turn-stand-requires c =
    let w = c.loop in
    let s = c.requires in
    record { settled = (w.invariant.2, w.invariant.3); most_body_in_bounds = (omega (arith, s.0, w.invariant.0), omega (arith, s.1, w.invariant.1)) }

pub loop-preserved : goal.loop-preserved
loop-preserved c = let e = c.turn-stand.ensures in (search rules, search rules, e.0, e.1)
