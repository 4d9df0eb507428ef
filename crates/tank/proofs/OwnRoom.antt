-- The room that each party is assured: the plant 32 marks of 64, the lab 16.
use Prim.Native.Nat.{ℕ, suc, ◌≤◌}
use mathlib.Core.Path.{◌≡◌, refl, sym, ap, ◌∙◌}
use mathlib.Core.Logic.{◌≢◌}
use mathlib.Core.Bool.{Bool, true, false, ◌&&◌, not}
use native.Mathlib.Omega.{arith}
use mathlib.Core.List.{List, [], ◌∷◌}
use lib.Dec.{eqb}
use lib.ListN.{length}
use borrow.Author.Tests.{le-ltb}
use Rattle.laws.proofs.Cases.{cond_by}
use Rattle.styles.specs.declared.Mark.{Mark}
use Rattle.styles.specs.declared.Party.TheVariants.{Plant, Lab}
use Rattle.styles.specs.Order.{id_of}
use Rattle.styles.specs.Marks.{member, insert_mark, same_party, of_party}
use Rattle.tank.specs.Rules.{View, carried, Edit, annotating, barred, empty, over, long, own_number, clashes, marks_of, needs, crowded, full, refusal}
use Rattle.tank.specs.State.{Roomy}
use Rattle.tank.proofs.CrowdLaws.{more_other}
use Rattle.tank.proofs.Calls.{own_by_lem}

-- ---- where the rule of 8 does not apply, 8 is not the number
abbrev pub NotEight : ℕ → Type 0
NotEight n = n ≢ 8

pub not_8 : (e : Edit) (v : View) → full e v ≡ false → NotEight (refusal e v)
unfolding refusal
not_8 e v f =
    cond_by NotEight (barred e) (λ z. omega arith)
    (cond_by NotEight (empty e) (λ z. omega arith)
    (cond_by NotEight (over e v) (λ z. omega arith)
    (cond_by NotEight (long e v) (λ z. omega arith)
    (cond_by NotEight (eqb (own_number e) 0)
    (cond_by NotEight (clashes e v) (λ z. omega arith) (rw f (λ z. omega arith)))
    (own_by_lem NotEight (λ z. omega arith) (λ z. omega arith) (λ z. omega arith) (λ z. omega arith) e)))))

-- where the lab has a mark, both parties' needs are at most 64: so it has at most 32
lab_32 : (ms : List Mark) → Roomy ms → marks_of Lab ms ≤ 32
unfolding needs
lab_32 ms r = go (of_party Lab ms) refl
  where
    go : (ls : List Mark) → of_party Lab ms ≡ ls → length (of_party Lab ms) ≤ 32
    go [] e = omega (arith, ap length e)
    go (l ∷ ls) e = let h = r.lab (λ none. let z : ◌≡◌ {A = ℕ} 0 (suc (length ls)) = ap length (sym none ∙ e) in absurd (omega arith)) in omega arith

-- ---- a mark more is taken while both parties stay within these numbers
module _ (a b : ℕ) (m : Mark) (v : View) where
  not_full : needs (insert_mark m (carried v)) ≤ 64 → full (annotating a b m) v ≡ false
  unfolding full crowded
  not_full h = rw (le-ltb 64 (needs (insert_mark m (carried v))) h) (and_no (not (member (id_of m) (carried v))))
    where
      and_no : (x : Bool) → (x && false) ≡ false
      and_no true = refl
      and_no false = refl

  -- the lab's sixteen hold while the plant has 48 or fewer
  pub lab_room : marks_of Plant (insert_mark m (carried v)) ≤ 48 → marks_of Lab (insert_mark m (carried v)) ≤ 16 → NotEight (refusal (annotating a b m) v)
  unfolding needs
  lab_room p l = not_8 (annotating a b m) v (not_full (omega arith))

  -- the plant's thirty-two hold while the lab has 32 or fewer
  pub plant_room : marks_of Plant (insert_mark m (carried v)) ≤ 32 → marks_of Lab (insert_mark m (carried v)) ≤ 32 → NotEight (refusal (annotating a b m) v)
  unfolding needs
  plant_room p l = not_8 (annotating a b m) v (not_full (omega arith))

  -- each within what it is assured
  pub own_room : marks_of Plant (insert_mark m (carried v)) ≤ 32 → marks_of Lab (insert_mark m (carried v)) ≤ 16 → NotEight (refusal (annotating a b m) v)
  own_room p l = lab_room (omega arith) l

  -- in a sound tank the lab never has more than 32, so the plant's thirty-two are assured whatever the lab does
  pub plant_assured : Roomy (carried v) → m.party ≡ Plant → marks_of Plant (insert_mark m (carried v)) ≤ 32 → NotEight (refusal (annotating a b m) v)
  plant_assured r own p = plant_room p (omega (arith, more_other Lab m (carried v) (ap (same_party Lab) own), lab_32 (carried v) r))
