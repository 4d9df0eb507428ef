-- `records::iter_anchors` meets its contract: after as many turns as the answer counts, the slice begins with all anchors, or none.
use Prim.Native.Nat.{ℕ}
use mathlib.Core.Path.{◌≡◌, ap, ◌∙◌}
use native.Mathlib.Omega.{arith}
use lib.ListN.{length}
use Rattle.laws.proofs.Lists.{stored}
use Rattle.lists.specs.Lists.{list_refusal, filled_beside}
use Rattle.lists.proofs.AnchorListLaws.{nth, stored_front}
use Rattle.ask.specs.Records.{records_of}
use Rattle.ask.proofs.RecordLaws.{stand_next, store_next}
use Rattle.ask.proofs.records.iter_anchors.Goals as goal

pub loop-j-preserved : goal.loop-j-preserved
loop-j-preserved c =
    let i = c.loop-j.invariant in
    record {
      standing = stand_next c.loop-j.j c.loop-j.c c.advance-c.result i.standing c.advance-c.ensures;
      out_is = store_next c.loop-j.j c.loop-j.c c.loop-j.out c.args.out.now c.anchor_at.result i.standing i.out_is c.anchor_at.ensures;
    }

pub returns : goal.returns
returns c =
    let xs = records_of c.args.p in
    let ys = c.args.out.now in
    let e = c.turns-n.ensures in
    let all : c.loop-j.j ≡ c.turns-n.result = omega arith in (
      c.judged.ensures ∙ ap (λ (room : ℕ). filled_beside (list_refusal c.args.lower room (length xs)) xs) c.loop-j.auto.out,
      c.loop-j.invariant.out_is ∙ ap (stored (nth xs) ys) all ∙ stored_front (list_refusal c.args.lower (length ys) (length xs)) xs ys _ e.0 e.1,
    )
