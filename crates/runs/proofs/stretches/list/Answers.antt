use Prim.Native.Nat.{ℕ, ◌+◌, ◌≤◌, ◌<◌, min, max}
use mathlib.Core.Path.{◌≡◌, refl, sym, ap, ◌∙◌}
use mathlib.Core.List.{List, ◌++◌}
use native.Mathlib.Omega.{arith}
use lib.Count.{ones}
use lib.ListN.{length, get_or, take, drop}
use Rattle.runs.specs.Runs.{runs, total}
use Rattle.runs.specs.Positions.{as_numbers}
use Rattle.runs.specs.Stretches.{entry, in_front}
use Rattle.runs.proofs.Clipped.{clipped, clipped_list, Fits}
use Rattle.runs.proofs.PositionLaws.{listed_is, fits_of}
use Rattle.runs.proofs.Laws.{total_more, turn_end}
use Rattle.runs.proofs.ListLaws.{clipped_more, clipped_length, clipped_grows, front_write, front_length}
use Rattle.runs.proofs.stretches.list.Invariants.{Listed}
use Rattle.runs.proofs.stretches.list.Goals as goal

-- the entry of a turn's run
abbrev more : ℕ → ℕ → ℕ → ℕ → ℕ → ℕ → List ℕ
more least from to start len set = entry least (max from start) (min to (start + len)) (ones set)

-- an entry written behind the list
placed : (xs es out₀ out : List ℕ) (at : ℕ) → at ≡ length xs → out ≡ in_front xs out₀ → length xs + length es ≤ length out₀
    → take at out ++ es ++ drop (at + length es) out ≡ in_front (xs ++ es) out₀
placed xs es out₀ out at e g h = rw (g, e) (front_write xs es out₀ h)

-- a turn: what the call asks, and the invariant after it
module _ {lens sets : List ℕ} {n from to least : ℕ} {out₀ out : List ℕ} {k start at : ℕ}
    (can : Fits least from to lens sets n out₀) (inv : Listed lens sets n from to least out₀ out k start at) (in-turn : k < n) where
  turn-list : clipped_list least from to lens sets (k + 1) ≡ clipped_list least from to lens sets k ++ more least from to start (get_or lens k 0) (get_or sets k 0)
  turn-list = rw inv.begun (clipped_more least from to lens sets k)

  turn-fits : length (clipped_list least from to lens sets k) + length (more least from to start (get_or lens k 0) (get_or sets k 0)) ≤ length out₀
  turn-fits = omega (arith, clipped_length least from to lens sets k inv.begun, clipped_grows least from to lens sets (k + 1) n (omega arith))

  turn-room : at + length (more least from to start (get_or lens k 0) (get_or sets k 0)) ≤ length out
  turn-room = omega (arith, turn-fits, ap length inv.done, front_length (clipped_list least from to lens sets k) out₀ (omega (arith, turn-fits)))

  turn : (out' : List ℕ) (at' : ℕ)
      → out' ≡ take at out ++ more least from to start (get_or lens k 0) (get_or sets k 0) ++ drop (at + length (more least from to start (get_or lens k 0) (get_or sets k 0))) out
      → at' ≡ at + length (more least from to start (get_or lens k 0) (get_or sets k 0))
      → Listed lens sets n from to least out₀ out' (k + 1) (start + get_or lens k 0) at'
  turn out' at' e g =
      record {
        begun = omega (arith, total_more lens sets k);
        place = omega (arith, clipped_length least from to lens sets k inv.begun);
        done =
            e
            ∙ placed (clipped_list least from to lens sets k) (more least from to start (get_or lens k 0) (get_or sets k 0)) out₀ out at inv.place inv.done turn-fits
            ∙ ap (λ (x : List ℕ). in_front x out₀) (sym turn-list);
      }

kept : {lens sets : List ℕ} {n from to least : ℕ} {out₀ out : List ℕ} {k start at : ℕ} → Fits least from to lens sets n out₀
    → Listed lens sets n from to least out₀ out k start at → k ≤ n → length out ≡ length out₀
kept {lens} {sets} {n} {from} {to} {least} {out₀} {k = k} can inv h =
    ap length inv.done ∙ front_length (clipped_list least from to lens sets k) out₀ (omega (arith, clipped_grows least from to lens sets k n h))

pub loop-k-init : goal.loop-k-init
unfolding runs total clipped as_numbers
loop-k-init c = record { begun = refl; place = refl; done = refl }

pub overflow_add-end : goal.overflow_add-end
overflow_add-end c = omega (arith, turn_end _ _ _ c.loop-k.invariant.begun (omega arith) (fits_of c.requires).look.small)

pub write_part-at-requires : goal.write_part-at-requires
write_part-at-requires c = turn-room (fits_of c.requires) c.loop-k.invariant (omega arith)

pub loop-k-preserved : goal.loop-k-preserved
loop-k-preserved c = turn (fits_of c.requires) c.loop-k.invariant (omega arith) _ _ c.write_part-at.ensures.out_after c.write_part-at.ensures.value

pub shape_of-out : goal.shape_of-out
shape_of-out c = kept (fits_of c.requires) c.loop-k.invariant (omega arith)

pub returns : goal.returns
returns c =
    let a = c.args in
    let e : c.loop-k.k ≡ a.n = omega arith in
    let by_runs = listed_is a.least a.from a.to a.lens.now a.sets.now a.n c.requires.joined c.requires.scan.reach in
    record { out_after = rw (by_runs, ← e) c.loop-k.invariant.done; value = rw (by_runs, ← e) c.loop-k.invariant.place }
