use Prim.Native.Nat.{ℕ, ◌+◌, ◌≤◌, ◌<◌, min}
use mathlib.Core.Path.{◌≡◌, refl, sym, ap, ◌∙◌}
use mathlib.Core.Bool.{Bool, true, false, not, ◌&&◌}
use mathlib.Core.List.{List}
use native.Mathlib.Nat.{zero-min}
use native.Mathlib.Omega.{arith}
use native.Mathlib.Decide.{dec_lt}
use borrow.Author.Tests.{lt-ltb, le-ltb}
use lib.Dec.{ltb}
use lib.ListN.{length, get_or}
use Rattle.runs.specs.Runs.{runs, total, set_at}
use Rattle.runs.specs.Positions.{stretch_to}
use Rattle.runs.specs.Scan.{meets, passes, CanScan}
use Rattle.runs.proofs.Copies.{clip}
use Rattle.runs.proofs.Laws.{total_more, turn_end}
use Rattle.runs.proofs.ScanLaws.{back_missed, back_over}
use Rattle.runs.proofs.scan.back.Invariants.{Walked}
use Rattle.runs.proofs.scan.back.Goals as goal

module _ {lens sets : List ℕ} {n mask last k start from : ℕ} (can : CanScan lens sets n (last + 1)) (inv : Walked lens sets n mask last k start from) (goes : start ≤ last) where
  -- the walk is not at its end
  in-turn : k < n
  in-turn =
      elim (dec_lt k n) [
        | yes h ↦ h
        | no h ↦
            let w = inv.within in
            let e : k ≡ n = omega arith in
            absurd (omega (arith, inv.begun, can.reach, ap (λ (x : ℕ). total (runs lens sets x)) e))
      ]

  turn : (from' : ℕ) → from' ≡ stretch_to (λ p. meets mask (set_at (runs lens sets n) p)) (min (start + get_or lens k 0) (last + 1))
      → Walked lens sets n mask last (k + 1) (start + get_or lens k 0) from'
  turn from' e = record { within = omega (arith, in-turn); begun = omega (arith, total_more lens sets k); so_far = e }

  turn-missed : (from' : ℕ) → (ltb 0 (clip 0 (last + 1) start (get_or lens k 0)) && not (meets mask (get_or sets k 0))) ≡ true
      → from' ≡ min (start + get_or lens k 0) (last + 1) → Walked lens sets n mask last (k + 1) (start + get_or lens k 0) from'
  turn-missed from' e g = turn from' (g ∙ back_missed lens sets n mask last k start in-turn inv.begun e)

  turn-over : (ltb 0 (clip 0 (last + 1) start (get_or lens k 0)) && not (meets mask (get_or sets k 0))) ≡ false
      → Walked lens sets n mask last (k + 1) (start + get_or lens k 0) from
  turn-over e = turn from (back_over lens sets n mask last k start in-turn inv.begun from inv.so_far e)

at-end : {lens sets : List ℕ} {n mask last k start from : ℕ} → Walked lens sets n mask last k start from → last < start
    → from ≡ stretch_to (λ p. meets mask (set_at (runs lens sets n) p)) (last + 1)
at-end {lens} {sets} {n} {mask} {last} {k} {start} inv h =
    let z : min start (last + 1) ≡ last + 1 = omega arith in
    inv.so_far ∙ ap (stretch_to (λ p. meets mask (set_at (runs lens sets n) p))) z

-- a run that begins by `last` has a position that is asked where it has one
some-asked : (last start l : ℕ) → start ≤ last → ltb 0 l ≡ ltb 0 (clip 0 (last + 1) start l)
some-asked last start l h =
    elim (dec_lt 0 l) [
      | yes k ↦ rw (lt-ltb 0 l k, lt-ltb 0 (clip 0 (last + 1) start l) (omega arith)) refl
      | no k ↦ rw (le-ltb 0 l (omega arith), le-ltb 0 (clip 0 (last + 1) start l) (omega arith)) refl
    ]

pub loop-start-init : goal.loop-start-init
unfolding runs total stretch_to
loop-start-init c = record { within = omega arith; begun = refl; so_far = rw zero-min }

pub offset_bounds-lens-i : goal.offset_bounds-lens-i
offset_bounds-lens-i c = omega (arith, (let h : (c.loop-start.i < c.args.n) × (c.args.n ≤ length c.args.lens.now) × (c.args.n ≤ length c.args.sets.now) = (in-turn c.requires c.loop-start.invariant c.loop-start-test.true, c.requires.look.lens_n, c.requires.look.sets_n) in h))

pub bounds-lens-i : goal.bounds-lens-i
bounds-lens-i c = omega (arith, (let h : (c.loop-start.i < c.args.n) × (c.args.n ≤ length c.args.lens.now) × (c.args.n ≤ length c.args.sets.now) = (in-turn c.requires c.loop-start.invariant c.loop-start-test.true, c.requires.look.lens_n, c.requires.look.sets_n) in h))

pub offset_bounds-sets-i : goal.offset_bounds-sets-i
offset_bounds-sets-i c = omega (arith, (let h : (c.loop-start.i < c.args.n) × (c.args.n ≤ length c.args.lens.now) × (c.args.n ≤ length c.args.sets.now) = (in-turn c.requires c.loop-start.invariant c.loop-start-test.true, c.requires.look.lens_n, c.requires.look.sets_n) in h))

pub bounds-sets-i : goal.bounds-sets-i
bounds-sets-i c = omega (arith, (let h : (c.loop-start.i < c.args.n) × (c.args.n ≤ length c.args.lens.now) × (c.args.n ≤ length c.args.sets.now) = (in-turn c.requires c.loop-start.invariant c.loop-start-test.true, c.requires.look.lens_n, c.requires.look.sets_n) in h))

pub overflow_add-start : goal.overflow_add-start
overflow_add-start c = omega (arith, turn_end _ _ _ c.loop-start.invariant.begun ((let h : (c.loop-start.i < c.args.n) × (c.args.n ≤ length c.args.lens.now) × (c.args.n ≤ length c.args.sets.now) = (in-turn c.requires c.loop-start.invariant c.loop-start-test.true, c.requires.look.lens_n, c.requires.look.sets_n) in h)).0 c.requires.look.small)

pub overflow_add-i : goal.overflow_add-i
overflow_add-i c = omega (arith, (let h : (c.loop-start.i < c.args.n) × (c.args.n ≤ length c.args.lens.now) × (c.args.n ≤ length c.args.sets.now) = (in-turn c.requires c.loop-start.invariant c.loop-start-test.true, c.requires.look.lens_n, c.requires.look.sets_n) in h))

pub overflow_add-last : goal.overflow_add-last
overflow_add-last c = omega (arith, c.requires.reach, c.requires.look.small)

pub loop-start-smaller-then-missed : goal.loop-start-smaller-then-missed
loop-start-smaller-then-missed c = omega (arith, (let h : (c.loop-start.i < c.args.n) × (c.args.n ≤ length c.args.lens.now) × (c.args.n ≤ length c.args.sets.now) = (in-turn c.requires c.loop-start.invariant c.loop-start-test.true, c.requires.look.lens_n, c.requires.look.sets_n) in h))

pub loop-start-preserved-then-missed : goal.loop-start-preserved-then-missed
unfolding passes
loop-start-preserved-then-missed c =
    turn-missed c.requires c.loop-start.invariant c.loop-start-test.true c.min-from.result (sym ((let c : let l = c.loop-start in
    let a = c.args in
    c.here-missed.result ≡ (ltb 0 (clip 0 (a.last + 1) l.start (get_or a.lens.now l.i 0)) && not (meets a.mask (get_or a.sets.now l.i 0))) = let l = c.loop-start in
    let a = c.args in
    c.here-missed.ensures ∙ ap (λ (b : Bool). b && not (meets a.mask (get_or a.sets.now l.i 0))) (some-asked a.last l.start (get_or a.lens.now l.i 0) c.loop-start-test.true) in c)) ∙ c.if-missed.true)
    c.min-from.ensures

pub loop-start-smaller : goal.loop-start-smaller
loop-start-smaller c = omega (arith, (let h : (c.loop-start.i < c.args.n) × (c.args.n ≤ length c.args.lens.now) × (c.args.n ≤ length c.args.sets.now) = (in-turn c.requires c.loop-start.invariant c.loop-start-test.true, c.requires.look.lens_n, c.requires.look.sets_n) in h))

pub loop-start-preserved : goal.loop-start-preserved
unfolding passes
loop-start-preserved c =
    turn-over c.requires c.loop-start.invariant c.loop-start-test.true (sym ((let c : let l = c.loop-start in
    let a = c.args in
    c.here-missed.result ≡ (ltb 0 (clip 0 (a.last + 1) l.start (get_or a.lens.now l.i 0)) && not (meets a.mask (get_or a.sets.now l.i 0))) = let l = c.loop-start in
    let a = c.args in
    c.here-missed.ensures ∙ ap (λ (b : Bool). b && not (meets a.mask (get_or a.sets.now l.i 0))) (some-asked a.last l.start (get_or a.lens.now l.i 0) c.loop-start-test.true) in c)) ∙ c.if-missed.false)

pub returns : goal.returns
returns c = at-end c.loop-start.invariant c.loop-start-test.false
