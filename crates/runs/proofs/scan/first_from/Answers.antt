use Prim.Native.Nat.{ℕ, ◌+◌, ◌-◌, ◌≤◌, ◌<◌, max}
use mathlib.Core.Path.{◌≡◌, refl, sym, ap, ◌∙◌}
use mathlib.Core.Bool.{Bool, true, false, ◌&&◌, and-eq-true_iff}
use mathlib.Core.List.{List}
use native.Mathlib.Omega.{arith}
use native.Mathlib.Decide.{dec_lt}
use borrow.Author.Tests.{ltb-true, lt-ltb}
use lib.Dec.{ltb}
use lib.ListN.{get_or}
use Rattle.runs.specs.Runs.{runs, total, set_at}
use Rattle.runs.specs.Positions.{seek_from}
use Rattle.runs.specs.Scan.{passes, CanScan}
use Rattle.runs.proofs.Copies.{clip}
use Rattle.runs.proofs.Laws.{total_more, total_mono, turn_end}
use Rattle.runs.proofs.ScanLaws.{at_run, second_fails}
use Rattle.runs.proofs.SeekLaws.{seek_is}
use Rattle.runs.proofs.scan.first_from.Invariants.{Sought}
use Rattle.runs.proofs.scan.first_from.Goals as goal

-- of the turn's run, what is asked
abbrev part : ℕ → ℕ → List ℕ → ℕ → ℕ
part from start lens k = clip from (start + get_or lens k 0) start (get_or lens k 0)

module _ {test : ℕ → Bool} {lens sets : List ℕ} {n from k start : ℕ} (can : CanScan lens sets n from) (inv : Sought test lens sets n from k start) (in-turn : k < n) where
  -- the positions of the turn's run have its set
  on-run : (p : ℕ) → start ≤ p → p < start + get_or lens k 0 → test (set_at (runs lens sets n) p) ≡ test (get_or sets k 0)
  on-run p a b = let z = inv.begun in ap test (at_run lens sets n k p in-turn (omega arith) (omega arith))

  turn-found : (ltb 0 (part from start lens k) && test (get_or sets k 0)) ≡ true
      → max from start ≡ seek_from (λ p. test (set_at (runs lens sets n) p)) from (total (runs lens sets n) - from)
  turn-found e =
      let b = (and-eq-true_iff (ltb 0 (part from start lens k)) (test (get_or sets k 0))).0 e in
      let some = ltb-true 0 (part from start lens k) b.0 in
      let z = inv.begun in
      let r = can.reach in
      let m = total_more lens sets k in
      let u = total_mono lens sets (k + 1) n (omega arith) in
      sym
      (seek_is (λ p. test (set_at (runs lens sets n) p)) from (total (runs lens sets n) - from) (max from start) (omega arith) (omega arith)
      (λ p c d. inv.clear p c (omega arith))
      (λ h. on-run (max from start) (omega arith) (omega arith) ∙ b.1))

  turn : (ltb 0 (part from start lens k) && test (get_or sets k 0)) ≡ false → Sought test lens sets n from (k + 1) (start + get_or lens k 0)
  turn e =
      let z = inv.begun in
      record {
        begun = omega (arith, total_more lens sets k);
        clear = λ p a h.
            elim (dec_lt p start) [
              | yes g ↦ inv.clear p a g
              | no g ↦
                  let some : 0 < part from start lens k = omega arith in
                  on-run p (omega arith) h ∙ second_fails (ltb 0 (part from start lens k)) (test (get_or sets k 0)) (lt-ltb 0 (part from start lens k) some) e
            ];
      }

at-end : {test : ℕ → Bool} {lens sets : List ℕ} {n from k start : ℕ} → CanScan lens sets n from → Sought test lens sets n from k start → k ≡ n
    → start ≡ seek_from (λ p. test (set_at (runs lens sets n) p)) from (total (runs lens sets n) - from)
at-end {test} {lens} {sets} {n} {from} {k} {start} can inv e =
    let z = inv.begun in
    let r = can.reach in
    let t = ap (λ (x : ℕ). total (runs lens sets x)) e in
    sym
    (seek_is (λ p. test (set_at (runs lens sets n) p)) from (total (runs lens sets n) - from) start (omega arith) (omega arith)
    (λ p c d. inv.clear p c d) (λ g. absurd (omega arith)))

pub loop-j-init : goal.loop-j-init
unfolding runs total
loop-j-init c = record { begun = refl; clear = λ p a h. absurd (omega arith) }

pub overflow_add-end : goal.overflow_add-end
overflow_add-end c = omega (arith, turn_end _ _ _ c.loop-j.invariant.begun (omega arith) c.requires.look.small)

pub returns-then-here : goal.returns-then-here
returns-then-here c =
    c.max.ensures ∙ turn-found c.requires c.loop-j.invariant (omega arith) (sym ((let c : let l = c.loop-j in
    let a = c.args in
    c.here.result ≡ (ltb 0 (part a.from l.start a.lens.now l.j) && passes a.test (get_or a.sets.now l.j 0)) = let a = c.args in
    c.here.ensures ∙ ap (λ (x : ℕ). ltb 0 x && passes a.test (get_or a.sets.now c.loop-j.j 0)) c.clip-len.ensures in c)) ∙ c.if-here.true)

pub loop-j-preserved : goal.loop-j-preserved
loop-j-preserved c =
    turn c.requires c.loop-j.invariant (omega arith) (sym ((let c : let l = c.loop-j in
    let a = c.args in
    c.here.result ≡ (ltb 0 (part a.from l.start a.lens.now l.j) && passes a.test (get_or a.sets.now l.j 0)) = let a = c.args in
    c.here.ensures ∙ ap (λ (x : ℕ). ltb 0 x && passes a.test (get_or a.sets.now c.loop-j.j 0)) c.clip-len.ensures in c)) ∙ c.if-here.false)

pub returns : goal.returns
returns c = at-end c.requires c.loop-j.invariant (omega arith)
