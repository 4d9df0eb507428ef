use Prim.Native.Nat.{ℕ, ◌+◌, ◌-◌, ◌<◌, min}
use mathlib.Core.Path.{◌≡◌, refl, sym, ap, ◌∙◌}
use mathlib.Core.List.{List}
use native.Mathlib.Omega.{arith}
use lib.ListN.{length, get_or}
use Rattle.runs.specs.Runs.{runs, total, set_at, Canon, changing, SameBehind}
use Rattle.runs.specs.Edits.{CanPush, CanCopy, Appended}
use Rattle.runs.proofs.Copies.{push_run, clip, copy_runs}
use Rattle.runs.proofs.Laws.{total_sums, total_more, turn_end, canon_copy, copy_more, copy_grows, copy_holds, copy_early, copy_late}
use Rattle.runs.proofs.EditLaws.{joined_is, pushed_is, copied_joined, push_can}
use Rattle.runs.proofs.BehindLaws.{behind_none, count_push, behind_on}
use Rattle.runs.proofs.copy.Invariants.{Copied}
use Rattle.runs.proofs.copy.Goals as goal

-- a turn: what the calls ask, and the invariant after it
module _ {olens₀ osets₀ : List ℕ} {n : ℕ} {lens sets : List ℕ} {m from to bits gone : ℕ} {olens osets : List ℕ} {k start at : ℕ}
    (can : CanCopy (changing bits gone) olens₀ osets₀ n lens sets m from to) (inv : Copied olens₀ osets₀ n lens sets m from to bits gone olens osets k start at) (in-turn : k < m) where
  turn-canon : Canon (runs olens osets at)
  turn-canon = rw inv.done (canon_copy (changing bits gone) (runs olens₀ osets₀ n) from to (runs lens sets k) can.joined)

  -- the push that the turn makes gives the copy of one run more
  turn-push : push_run (runs olens osets at) (clip from to start (get_or lens k 0)) (changing bits gone (get_or sets k 0))
      ≡ copy_runs (changing bits gone) (runs olens₀ osets₀ n) from to (runs lens sets (k + 1))
  turn-push = rw (inv.done, inv.begun) (sym (copy_more lens sets (changing bits gone) (runs olens₀ osets₀ n) from to k))

  turn-can : CanPush olens osets at (clip from to start (get_or lens k 0)) (changing bits gone (get_or sets k 0))
  turn-can =
      let made = copied_joined (changing bits gone) (runs olens₀ osets₀ n) from to (runs lens sets m) can.joined in
      push_can (clip from to start (get_or lens k 0)) (changing bits gone (get_or sets k 0)) (omega arith) turn-canon
      (rw turn-push (omega (arith, can.room _ made, copy_grows lens sets (changing bits gone) (runs olens₀ osets₀ n) from to (k + 1) m (omega arith))))
      (rw turn-push (omega (arith, made.all, copy_holds lens sets (changing bits gone) (runs olens₀ osets₀ n) from to (k + 1) m (omega arith))))

  turn : (olens' osets' : List ℕ) (at' : ℕ)
      → Appended (runs olens osets at) (clip from to start (get_or lens k 0)) (λ q. changing bits gone (get_or sets k 0)) (runs olens' osets' at')
      → length olens' ≡ length olens → length osets' ≡ length osets → SameBehind at' olens osets olens' osets'
      → Copied olens₀ osets₀ n lens sets m from to bits gone olens' osets' (k + 1) (start + get_or lens k 0) at'
  turn olens' osets' at' j l l' b =
      let e = pushed_is (runs olens osets at) (clip from to start (get_or lens k 0)) (changing bits gone (get_or sets k 0)) turn-canon j in
      record {
        within = omega arith;
        begun = omega (arith, total_more lens sets k);
        done = e ∙ turn-push;
        kept = omega arith;
        kept' = omega arith;
        behind = behind_on at at' (count_push olens osets olens' osets' at at' _ _ turn-canon j) inv.behind b;
      }

-- where no run is left, or none that begins before `to`, the copy is whole
whole : {olens₀ osets₀ : List ℕ} {n : ℕ} {lens sets : List ℕ} {m from to bits gone : ℕ} {olens osets : List ℕ} {k start at : ℕ}
    → CanCopy (changing bits gone) olens₀ osets₀ n lens sets m from to → Copied olens₀ osets₀ n lens sets m from to bits gone olens osets k start at
    → copy_runs (changing bits gone) (runs olens₀ osets₀ n) from to (runs lens sets m) ≡ copy_runs (changing bits gone) (runs olens₀ osets₀ n) from to (runs lens sets k)
    → Appended (runs olens₀ osets₀ n) (min to (total (runs lens sets m)) - from) (λ q. changing bits gone (set_at (runs lens sets m) (from + q))) (runs olens osets at)
whole {olens₀} {osets₀} {n} {lens} {sets} {m} {from} {to} {bits} {gone} can inv e =
    joined_is (copied_joined (changing bits gone) (runs olens₀ osets₀ n) from to (runs lens sets m) can.joined) (inv.done ∙ sym e)

pub find_forward-first-requires : goal.find_forward-first-requires
find_forward-first-requires c = (c.requires.lens_m, omega (arith, c.requires.source, total_sums c.args.lens.now c.args.sets.now c.args.m))

pub loop-k-init : goal.loop-k-init
loop-k-init c =
    let s = c.args in
    let f = c.find_forward-first.ensures in
    let t = total_sums s.lens.now s.sets.now c.find_forward-first.result.index in
    record {
      within = f.within;
      begun = f.starts ∙ sym t;
      done = sym (copy_early s.lens.now s.sets.now (changing s.bits s.gone) _ s.from s.to c.find_forward-first.result.index (omega (arith, t, f.starts, f.reached)));
      kept = refl;
      kept' = refl;
      behind = behind_none _ _ _;
    }

-- no run is left that begins before `to`
pub returns-then-to-start : goal.returns-then-to-start
returns-then-to-start c =
    let inv = c.loop-k.invariant in
    record { appended = whole c.requires inv (copy_late c.args.lens.now c.args.sets.now (changing c.args.bits c.args.gone) _ c.args.from c.args.to c.loop-k.k c.args.m inv.within (omega (arith, inv.begun, c.if-to-start.true))); same_behind = inv.behind }

pub overflow_add-end : goal.overflow_add-end
overflow_add-end c = omega (arith, turn_end _ _ _ c.loop-k.invariant.begun (omega arith) c.requires.source)

pub push-at-requires : goal.push-at-requires
push-at-requires c =
    rw (
      ((let h : let l = c.loop-k in
          let a = c.args in
          (c.clip-len.result ≡ clip a.from a.to l.start (get_or a.lens.now l.k 0))
          × (c.change.result ≡ changing a.bits a.gone (get_or a.sets.now l.k 0)) = (c.clip-len.ensures, c.change.ensures) in h)).0,
      ((let h : let l = c.loop-k in
          let a = c.args in
          (c.clip-len.result ≡ clip a.from a.to l.start (get_or a.lens.now l.k 0))
          × (c.change.result ≡ changing a.bits a.gone (get_or a.sets.now l.k 0)) = (c.clip-len.ensures, c.change.ensures) in h)).1,
    )
    (turn-can c.requires c.loop-k.invariant (omega arith))

pub loop-k-preserved : goal.loop-k-preserved
loop-k-preserved c =
    turn c.requires c.loop-k.invariant (omega arith) _ _ _
    (rw (
      ← ((let h : let l = c.loop-k in
          let a = c.args in
          (c.clip-len.result ≡ clip a.from a.to l.start (get_or a.lens.now l.k 0))
          × (c.change.result ≡ changing a.bits a.gone (get_or a.sets.now l.k 0)) = (c.clip-len.ensures, c.change.ensures) in h)).0,
      ← ((let h : let l = c.loop-k in
          let a = c.args in
          (c.clip-len.result ≡ clip a.from a.to l.start (get_or a.lens.now l.k 0))
          × (c.change.result ≡ changing a.bits a.gone (get_or a.sets.now l.k 0)) = (c.clip-len.ensures, c.change.ensures) in h)).1,
    ) c.push-at.ensures.appended) (omega arith) (omega arith) c.push-at.ensures.same_behind

-- no run is left
pub returns : goal.returns
returns c =
    let e : c.args.m ≡ c.loop-k.k = omega (arith, c.loop-k.invariant.within) in
    record { appended = whole c.requires c.loop-k.invariant (ap (λ (i : ℕ). copy_runs (changing c.args.bits c.args.gone) (runs c.args.olens.now c.args.osets.now c.args.n) c.args.from c.args.to (runs c.args.lens.now c.args.sets.now i)) e); same_behind = c.loop-k.invariant.behind }
