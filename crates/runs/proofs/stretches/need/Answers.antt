use Prim.Native.Nat.{ℕ, ◌+◌, ◌*◌, ◌<◌, ◌^◌, min, max}
use mathlib.Core.Path.{◌≡◌, refl}
use mathlib.Core.List.{List}
use native.Mathlib.Omega.{arith}
use lib.Count.{ones}
use lib.ListN.{length, get_or}
use Rattle.runs.specs.Runs.{runs, total}
use Rattle.runs.specs.Positions.{as_numbers}
use Rattle.runs.specs.Stretches.{entry, CanCount}
use Rattle.runs.proofs.Clipped.{clipped}
use Rattle.runs.proofs.PositionLaws.{listed_is}
use Rattle.runs.proofs.Laws.{total_more, turn_end}
use Rattle.runs.proofs.ListLaws.{clipped_length, clipped_most, entry_most}
use Rattle.runs.proofs.stretches.need.Invariants.{Needed}
use Rattle.runs.proofs.stretches.need.Goals as goal

module _ {lens sets : List ℕ} {n from to least k start count : ℕ} (can : CanCount lens sets n) (inv : Needed lens sets n from to least k start count) (in-turn : k < n) where
  small : count < 3 * 2 ^ 62
  small = omega (arith, clipped_most least from to lens sets k)

  turn : (more : ℕ) → more ≡ length (entry least (max from start) (min to (start + get_or lens k 0)) (ones (get_or sets k 0)))
      → Needed lens sets n from to least (k + 1) (start + get_or lens k 0) (count + more)
  turn more e =
      record {
        begun = omega (arith, total_more lens sets k);
        place = omega (arith, clipped_length least from to lens sets k inv.begun);
      }

pub loop-k-init : goal.loop-k-init
unfolding runs total clipped as_numbers
loop-k-init c = record { begun = refl; place = refl }

pub overflow_add-end : goal.overflow_add-end
overflow_add-end c = omega (arith, turn_end _ _ _ c.loop-k.invariant.begun (omega arith) c.requires.0.look.small)

pub overflow_add-count : goal.overflow_add-count
overflow_add-count c =
    let l = c.loop-k in
    let a = c.args in
    omega (
      arith,
      small c.requires.0 l.invariant (omega arith),
      c.part_width-count.ensures,
      entry_most a.least (max a.from l.start) (min a.to (l.start + get_or a.lens.now l.k 0)) (ones (get_or a.sets.now l.k 0)),
    )

pub loop-k-preserved : goal.loop-k-preserved
loop-k-preserved c = turn c.requires.0 c.loop-k.invariant (omega arith) c.part_width-count.result c.part_width-count.ensures

pub returns : goal.returns
returns c =
    let a = c.args in
    let e : c.loop-k.k ≡ a.n = omega arith in
    rw (listed_is a.least a.from a.to a.lens.now a.sets.now a.n c.requires.1 c.requires.2, ← e) c.loop-k.invariant.place
