-- `anchors::iter_anchors` meets its contract: after as many turns as the answer counts, the slice begins with all anchors, or none.
use Prim.Native.Nat.{ℕ, ◌<◌}
use mathlib.Core.Path.{◌≡◌, ap, subst, ◌∙◌}
use native.Mathlib.Omega.{arith}
use lib.ListN.{length}
use Rattle.laws.proofs.Lists.{stored}
use Rattle.lists.specs.Anchors.{anchors, anchors_after, Steps}
use Rattle.lists.specs.Lists.{filled_beside}
use Rattle.tank.specs.State.{view}
use Rattle.lists.proofs.AnchorListLaws.{nth, stored_front, stand_next, stand_more, store_next, count_all}
use Rattle.lists.proofs.anchors.iter_anchors.Goals.{in-Some, in_default}
use Rattle.lists.proofs.anchors.iter_anchors.Goals as goal

pub loop-j-preserved : goal.loop-j-preserved
loop-j-preserved c =
    let l = c.loop-j in
    let xs = anchors (view c.args.t) in
    let s = l.invariant.standing in
    elim c.match-next_anchor.branch [
      | in-Some w ↦
          let (is, on) = stand_next s w.in-Some.anchor w.in-Some.after w.in-Some.ensures in
          record {
            standing = rw w.c-is on;
            out_is = w.out-is ∙ store_next xs l.out c.args.out.now l.j w.in-Some.anchor l.invariant.out_is is;
          }
      | in_default w ↦
          let few : l.j < length xs = omega (arith, c.turns-n.ensures.0, count_all (anchors_after c.args.lower (length c.args.out.now) (view c.args.t)) xs) in
          absurd (stand_more s few (subst (Steps c.args.t l.c) w.in_default.is c.next_anchor.ensures))
    ]

pub returns : goal.returns
returns c =
    let xs = anchors (view c.args.t) in
    let ys = c.args.out.now in
    let e = c.turns-n.ensures in
    let all : c.loop-j.j ≡ c.turns-n.result = omega arith in (
      c.judged.ensures ∙ ap (λ (room : ℕ). filled_beside (anchors_after c.args.lower room (view c.args.t)) xs) c.loop-j.auto.out,
      c.loop-j.invariant.out_is ∙ ap (stored (nth xs) ys) all ∙ stored_front (anchors_after c.args.lower (length ys) (view c.args.t)) xs ys _ e.0 e.1,
    )
