-- `runs::push` meets its contract: its stores make the pure push (`Laws`), which is the joined list (`pushed_joined`).
use Prim.Native.Nat.{ℕ, ◌<◌, ◌-◌}
use mathlib.Core.Path.{◌≡◌}
use mathlib.Core.List.{List}
use native.Mathlib.Omega.{arith}
use borrow.Author.Rules.{rules}
use lib.ListN.{length, get_or}
use Rattle.runs.specs.Edits.{CanPush}
use Rattle.runs.specs.Runs.{runs, Other}
use Rattle.runs.proofs.Laws.{last_le, other_runs, new_room, store_join, store_new}
use Rattle.runs.proofs.EditLaws.{joined_is, pushed_joined}
use Rattle.runs.proofs.push.Goals as goal
use Rattle.runs.proofs.push.Goals.{then-n-gt0+else-sets-k, else-n-gt0}

-- where nothing is joined there is room for one run more
room_left : (lens sets : List ℕ) (n l s : ℕ) → CanPush lens sets n l s → (l ≡ 0 → ⊥) → Other s (runs lens sets n) → n < length lens
room_left lens sets n l s p nonzero other = new_room lens sets n l s (p.room _ (pushed_joined _ _ _ p.joined)) nonzero other

pub overflow_add-lens : goal.overflow_add-lens
overflow_add-lens c =
    let a = c.args in
    omega (arith, last_le a.lens.now a.sets.now a.n 0 0 (omega arith))

pub returns-then-sets-k-clause-appended : goal.returns-then-sets-k-clause-appended
returns-then-sets-k-clause-appended c =
    let a = c.args in
    joined_is (pushed_joined _ _ _ c.requires.joined) (store_join a.lens.now a.sets.now a.n a.len a.set (omega arith) (omega arith) (search rules) c.if-sets-k.true)

pub bounds-lens-n : goal.bounds-lens-n
bounds-lens-n c =
    let a = c.args in
    let differs : 0 < a.n → get_or a.sets.now (a.n - 1) 0 ≡ a.set → ⊥ = elim c.if-n-gt0.branch [ then-n-gt0+else-sets-k w ↦ λ _ e. w.if-sets-k.false e | else-n-gt0 w ↦ λ h _. omega arith ] in
    room_left a.lens.now a.sets.now a.n a.len a.set c.requires c.if-len-eq0.false (other_runs a.lens.now a.sets.now a.n a.len a.set differs)

pub bounds-sets-n : goal.bounds-sets-n
bounds-sets-n c = omega (arith, bounds-lens-n c)

pub returns-clause-appended : goal.returns-clause-appended
returns-clause-appended c =
    let a = c.args in
    let differs : 0 < a.n → get_or a.sets.now (a.n - 1) 0 ≡ a.set → ⊥ = elim c.if-n-gt0.branch [ then-n-gt0+else-sets-k w ↦ λ _ e. w.if-sets-k.false e | else-n-gt0 w ↦ λ h _. omega arith ] in
    let other = other_runs a.lens.now a.sets.now a.n a.len a.set differs in
    let room = room_left a.lens.now a.sets.now a.n a.len a.set c.requires c.if-len-eq0.false other in
    joined_is (pushed_joined _ _ _ c.requires.joined) (store_new a.lens.now a.sets.now a.n a.len a.set room (omega arith) c.if-len-eq0.false other)
