use Prim.Native.Nat.{ℕ, ◌≤◌, ◌<◌}
use mathlib.Core.Path.{◌≡◌, sym, ◌∙◌}
use mathlib.Core.Bool.{true}
use mathlib.Core.List.{List}
use native.Mathlib.Omega.{arith}
use lib.ListN.{get_or}
use Rattle.runs.proofs.SeekLaws.{seek_is}
use Rattle.windows.specs.Windows.{shows_bits, first_of_set}
use Rattle.windows.proofs.first_of.Invariants.{Missed}
use Rattle.windows.proofs.first_of.Goals as goal

first-is : {keyed : List ℕ} {nulls set j : ℕ} → Missed keyed nulls set j → j ≤ 8 → (j < 8 → shows_bits (get_or keyed j 0) nulls set ≡ true) → j ≡ first_of_set keyed nulls set
first-is {keyed} {nulls} {set} {j} m few h =
    sym (seek_is (λ i. shows_bits (get_or keyed i 0) nulls set) 0 8 j (omega arith) few (λ p a b. m.none p b) h)

pub returns-then-shows : goal.returns-then-shows
returns-then-shows c = first-is c.loop-j.invariant (omega arith) (λ h. sym c.shows.ensures ∙ c.if-shows.true)

pub returns : goal.returns
returns c =
    let z : 8 ≡ c.loop-j.j = omega arith in
    z ∙ first-is c.loop-j.invariant (omega arith) (λ h. absurd (omega arith))
