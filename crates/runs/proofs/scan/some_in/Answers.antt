use Prim.Native.Nat.{ℕ, ◌+◌, ◌≤◌, ◌<◌, max}
use mathlib.Core.Path.{◌≡◌, refl, sym, ap, ◌∙◌}
use mathlib.Core.Bool.{Bool, true, false, ◌&&◌, and-eq-true_iff}
use mathlib.Core.List.{List}
use native.Mathlib.Omega.{arith}
use native.Mathlib.Decide.{dec_lt}
use borrow.Author.Tests.{ltb-true, lt-ltb}
use lib.Dec.{ltb}
use lib.ListN.{get_or}
use Rattle.runs.specs.Runs.{runs, total, set_at}
use Rattle.runs.specs.Positions.{any_at}
use Rattle.runs.specs.Scan.{passes, CanScan}
use Rattle.runs.proofs.Copies.{clip}
use Rattle.runs.proofs.Laws.{total_more, turn_end}
use Rattle.runs.proofs.ScanLaws.{any_yes, any_no, at_run, second_fails}
use Rattle.runs.proofs.scan.some_in.Invariants.{Scanned}
use Rattle.runs.proofs.scan.some_in.Goals as goal

module _ {test : ℕ → Bool} {lens sets : List ℕ} {n from to k start : ℕ} (can : CanScan lens sets n to) (inv : Scanned test lens sets n from to k start) (in-turn : k < n) where
  -- the positions of the turn's run have its set
  on-run : (p : ℕ) → start ≤ p → p < start + get_or lens k 0 → test (set_at (runs lens sets n) p) ≡ test (get_or sets k 0)
  on-run p a b = ap test (at_run lens sets n k p in-turn (omega arith) (omega arith))

  turn-found : (ltb 0 (clip from to start (get_or lens k 0)) && test (get_or sets k 0)) ≡ true → any_at (λ p. test (set_at (runs lens sets n) p)) from to ≡ true
  turn-found e =
      let b = (and-eq-true_iff (ltb 0 (clip from to start (get_or lens k 0))) (test (get_or sets k 0))).0 e in
      let some = ltb-true 0 (clip from to start (get_or lens k 0)) b.0 in
      any_yes (λ p. test (set_at (runs lens sets n) p)) from to (max from start) (omega arith) (omega arith) (on-run (max from start) (omega arith) (omega arith) ∙ b.1)

  turn : (ltb 0 (clip from to start (get_or lens k 0)) && test (get_or sets k 0)) ≡ false → Scanned test lens sets n from to (k + 1) (start + get_or lens k 0)
  turn e =
      record {
        begun = omega (arith, total_more lens sets k);
        clear = λ p a b h.
            elim (dec_lt p start) [
              | yes g ↦ inv.clear p a b g
              | no g ↦
                  let some : 0 < clip from to start (get_or lens k 0) = omega arith in
                  on-run p (omega arith) h ∙ second_fails (ltb 0 (clip from to start (get_or lens k 0))) (test (get_or sets k 0)) (lt-ltb 0 (clip from to start (get_or lens k 0)) some) e
            ];
      }

at-end : {test : ℕ → Bool} {lens sets : List ℕ} {n from to k start : ℕ} → CanScan lens sets n to → Scanned test lens sets n from to k start → k ≡ n
    → any_at (λ p. test (set_at (runs lens sets n) p)) from to ≡ false
at-end {test} {lens} {sets} {n} {from} {to} {k} can inv e =
    let t = ap (λ (x : ℕ). total (runs lens sets x)) e in
    any_no (λ p. test (set_at (runs lens sets n) p)) from to (λ p a b. inv.clear p a b (omega arith))

pub loop-k-init : goal.loop-k-init
unfolding runs total
loop-k-init c = record { begun = refl; clear = λ p a b h. absurd (omega arith) }

pub overflow_add-end : goal.overflow_add-end
overflow_add-end c = omega (arith, turn_end _ _ _ c.loop-k.invariant.begun (omega arith) c.requires.look.small)

pub returns-then-here : goal.returns-then-here
returns-then-here c =
    sym (turn-found c.requires c.loop-k.invariant (omega arith) (sym ((let c : let l = c.loop-k in
    let a = c.args in
    c.here.result ≡ (ltb 0 (clip a.from a.to l.start (get_or a.lens.now l.k 0)) && passes a.test (get_or a.sets.now l.k 0)) = let a = c.args in
    c.here.ensures ∙ ap (λ (x : ℕ). ltb 0 x && passes a.test (get_or a.sets.now c.loop-k.k 0)) c.clip-len.ensures in c)) ∙ c.if-here.true))

pub loop-k-preserved : goal.loop-k-preserved
loop-k-preserved c =
    turn c.requires c.loop-k.invariant (omega arith) (sym ((let c : let l = c.loop-k in
    let a = c.args in
    c.here.result ≡ (ltb 0 (clip a.from a.to l.start (get_or a.lens.now l.k 0)) && passes a.test (get_or a.sets.now l.k 0)) = let a = c.args in
    c.here.ensures ∙ ap (λ (x : ℕ). ltb 0 x && passes a.test (get_or a.sets.now c.loop-k.k 0)) c.clip-len.ensures in c)) ∙ c.if-here.false)

pub returns : goal.returns
returns c = sym (at-end c.requires c.loop-k.invariant (omega arith))
