use Prim.Native.Nat.{ℕ, ◌+◌, ◌≤◌, min, max}
use mathlib.Core.Path.{◌≡◌, sym, ap, ◌∙◌}
use mathlib.Core.List.{List, ◌++◌}
use lib.Count.{ones}
use lib.ListN.{length, take, drop}
use native.Mathlib.Omega.{arith}
use Rattle.runs.specs.Stretches.{entry, in_front}
use Rattle.tanks.specs.declared.Head.{Head}
use Rattle.tanks.specs.declared.Run.{Run}
use Rattle.tanks.specs.Pool.{runs_in, runs_below}
use Rattle.tanks.specs.Masked.{masked_list, CanList}
use Rattle.tanks.proofs.LookLaws.{walk_fits}
use Rattle.tanks.proofs.Closing.{In, told_to, in_begins, in_same, in_new, told_more, told_length, told_none, told_within, told_all, placed, kept}
use Rattle.tanks.proofs.stretches.list_in.Goals as goal
use Rattle.tanks.proofs.stretches.list_in.Goals.{then-bits-one, else-bits-one}

-- a stretch closed: there is room for its numbers, and they stand behind those told
module _ {hs : List Head} {pool : List Run} {t at to : ℕ} (can : CanList hs pool t to) (e : at ≡ runs_below hs t) (own least from : ℕ) (out₀ : List ℕ) {out : List ℕ}
    (fits : length (masked_list least from to own hs pool t) ≤ length out₀) {i end first one filled : ℕ} (w : In pool at (runs_in hs t) own i end first one)
    (place : filled ≡ length (told_to least from to pool at (runs_in hs t) own first)) (done : out ≡ in_front (told_to least from to pool at (runs_in hs t) own first) out₀) where
  both-fit : length (told_to least from to pool at (runs_in hs t) own first) + length (entry least (max from first) (min to end) (ones one)) ≤ length out₀
  both-fit = omega (arith, fits, told_length w least from to, told_within can e own least from end)

  room : filled + length (entry least (max from first) (min to end) (ones one)) ≤ length out
  room = omega (arith, place, both-fit, kept (told_to least from to pool at (runs_in hs t) own first) out₀ out done (omega (arith, both-fit)))

  closed : {out' : List ℕ}
      → out' ≡ take filled out ++ entry least (max from first) (min to end) (ones one) ++ drop (filled + length (entry least (max from first) (min to end) (ones one))) out
      → out' ≡ in_front (told_to least from to pool at (runs_in hs t) own end) out₀
  closed g =
      g
      ∙ placed (told_to least from to pool at (runs_in hs t) own first) (entry least (max from first) (min to end) (ones one)) out₀ out filled place done both-fit
      ∙ ap (λ (xs : List ℕ). in_front xs out₀) (sym (told_more w least from to))

  moved : {k : ℕ} → k ≡ filled + length (entry least (max from first) (min to end) (ones one)) → k ≡ length (told_to least from to pool at (runs_in hs t) own end)
  moved g = omega (arith, g, place, told_length w least from to)

pub start-at-requires : goal.start-at-requires
start-at-requires c = let p = c.requires.0.walk in (omega (arith, p.inside), p.room)

pub loop-i-init : goal.loop-i-init
loop-i-init c =
    let a = c.args in
    let none = told_none a.least a.from a.to a.pool c.start-at.result (runs_in a.heads a.t) a.own in
    (in_begins c.requires.0.walk c.start-at.ensures a.own, ap length none, ap (λ (xs : List ℕ). in_front xs a.out.now) none)

pub overflow_add-r : goal.overflow_add-r
overflow_add-r c = let w = c.loop-i.invariant.0.walked in omega (arith, w.inside, c.loop-i-test.true)

pub overflow_add-end : goal.overflow_add-end
overflow_add-end c = omega (arith, walk_fits c.loop-i.invariant.0.walked c.loop-i-test.true)

pub write_part-filled-requires : goal.write_part-filled-requires
write_part-filled-requires c =
    let v = c.loop-i.invariant in
    room c.requires.0 c.start-at.ensures c.args.own c.args.least c.args.from c.args.out.now c.requires.1 v.0 v.1 v.2

pub loop-i-preserved : goal.loop-i-preserved
loop-i-preserved c =
    let a = c.args in
    let v = c.loop-i.invariant in
    elim c.if-bits-one.branch [
      | then-bits-one w ↦
          rw (w.first-is, w.one-is, w.filled-is, w.out-is) (
            in_new c.requires.0.walk c.start-at.ensures a.own v.0 c.loop-i-test.true w.if-bits-one.true,
            moved c.requires.0 c.start-at.ensures a.own a.least a.from a.out.now c.requires.1 v.0 v.1 v.2 w.write_part-filled.ensures.value,
            closed c.requires.0 c.start-at.ensures a.own a.least a.from a.out.now c.requires.1 v.0 v.1 v.2 w.write_part-filled.ensures.out_after,
          )
      | else-bits-one w ↦
          rw (w.first-is, w.one-is, w.filled-is, w.out-is)
          (in_same c.requires.0.walk c.start-at.ensures a.own v.0 c.loop-i-test.true w.if-bits-one.false, v.1, v.2)
    ]

pub write_part-requires : goal.write_part-requires
write_part-requires c =
    let v = c.loop-i.invariant in
    room c.requires.0 c.start-at.ensures c.args.own c.args.least c.args.from c.args.out.now c.requires.1 v.0 v.1 v.2

pub shape_of-out : goal.shape_of-out
shape_of-out c =
    let a = c.args in
    let v = c.loop-i.invariant in
    let all = told_all c.requires.0 c.start-at.ensures a.own a.least a.from v.0 c.loop-i-test.false in
    kept (masked_list a.least a.from a.to a.own a.heads a.pool a.t) a.out.now c.write_part.new.out
    (closed c.requires.0 c.start-at.ensures a.own a.least a.from a.out.now c.requires.1 v.0 v.1 v.2 c.write_part.ensures.out_after ∙ ap (λ (xs : List ℕ). in_front xs a.out.now) all)
    c.requires.1

-- all of it is told
pub returns : goal.returns
returns c =
    let a = c.args in
    let v = c.loop-i.invariant in
    let all = told_all c.requires.0 c.start-at.ensures a.own a.least a.from v.0 c.loop-i-test.false in
    record {
      out_after = closed c.requires.0 c.start-at.ensures a.own a.least a.from a.out.now c.requires.1 v.0 v.1 v.2 c.write_part.ensures.out_after ∙ ap (λ (xs : List ℕ). in_front xs a.out.now) all;
      value = moved c.requires.0 c.start-at.ensures a.own a.least a.from a.out.now c.requires.1 v.0 v.1 v.2 c.write_part.ensures.value ∙ ap length all;
    }
