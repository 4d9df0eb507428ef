-- The stretch lists by position are those of the runs, and what each way out of a list's call hands back.
use Prim.Native.Nat.{ℕ, zero, suc, ◌≤◌, ◌<◌}
use mathlib.Core.Path.{◌≡◌, refl, sym, ap, ◌∙◌}
use mathlib.Core.List.{List, []}
use native.Mathlib.Omega.{arith}
use native.Mathlib.Decide.{dec_le}
use lib.ListN.{length, drop, take, drop_of_length-le}
use lib.Seq.{take_at}
use borrow.Author.Tests.{lt-ltb, le-ltb}
use Rattle.styles.proofs.CountLaws.{pick_length}
use Rattle.runs.specs.Runs.{set_at}
use Rattle.runs.specs.Positions.{stretches_at, as_numbers}
use Rattle.runs.specs.Stretches.{alike_in, marks_in, listed, in_front, CanList}
use Rattle.runs.proofs.PositionLaws.{at_ext, at_none}
use Rattle.tank.specs.declared.Tank.{Tank}
use Rattle.lists.specs.declared.Listed.{Listed}
use Rattle.tank.specs.Rules.{View}
use Rattle.tank.specs.State.{runs_of, table_of, view, Laid}
use Rattle.lists.specs.Lists.{stretches_over, list_over, range_list, range_refusal, list_refusal, unless_refused, filled_beside, range_needed}
use Rattle.tank.proofs.Calls.{asked_empty, asked_over, asked_within, when_refused}
use Rattle.tank.proofs.Counted.{at_inside, alike_at}
use Rattle.tank.proofs.Shape.{can_look}
use Rattle.tank.proofs.Unique.{inside_table}

-- ---- by position and by runs
module _ {t : Tank} (f : Laid t) where
  over_is : (a b : ℕ) → stretches_at (alike_in (runs_of t)) (marks_in (runs_of t)) a b ≡ stretches_over a b (view t)
  unfolding view
  over_is a b =
      at_ext _ _ _ _ a b
      (λ p x y. sym (alike_at (table_of t) (runs_of t) f.sorted (inside_table f) p (suc p)))
      (λ p x y. sym (pick_length (table_of t) (set_at (runs_of t) p) (at_inside (runs_of t) _ p (inside_table f))))

  module _ (least a b : ℕ) where
    pub list_is : listed least a b t.lens t.sets t.runs ≡ list_over least a b (view t)
    unfolding list_over
    list_is = ap (as_numbers least) (over_is a b)

    -- what writing the list asks: room for what is needed
    pub can_list : (out : List ℕ) → b ≤ t.length → length (list_over least a b (view t)) ≤ length out → CanList least a b t.lens t.sets t.runs out
    can_list out h g =
        record { scan = record { look = can_look f; reach = omega (arith, f.sum) }; joined = f.canon; room = omega (arith, ap length list_is) }

-- ---- the refusals of a range
module _ (a b : ℕ) (v : View) where
  pub empty_list : b ≤ a → range_list a b v ≡ []
  unfolding list_over as_numbers
  empty_list h = ap (as_numbers 0) (at_none _ _ a b h)

  -- ---- the count needed
  pub needed_empty : b ≤ a → record { number = 0; count = 0 } ≡ range_needed a b v
  unfolding range_refusal
  needed_empty h = rw (asked_empty a b 0 v h, empty_list h)

  pub needed_over : a < b → v.length < b → record { number = 4; count = 0 } ≡ range_needed a b v
  unfolding range_refusal
  needed_over h g = rw (asked_over a b 0 v h g)

  pub needed_is : (n : ℕ) → a < b → b ≤ v.length → n ≡ length (range_list a b v) → record { number = 0; count = n } ≡ range_needed a b v
  unfolding range_refusal
  needed_is n h g e = rw (asked_within a b 0 v h g, e)

  -- a count that is not 0 comes from a range that is not refused
  pub needed_some : (r : Listed) → r ≡ range_needed a b v → (r.count ≡ 0 → ⊥) → (range_refusal a b v ≡ 0) × (b ≤ v.length) × (r.count ≡ length (range_list a b v))
  unfolding range_refusal
  needed_some r e d =
      elim (dec_le b a) [
        | yes h ↦ absurd (d (ap (λ (x : Listed). x.count) (e ∙ sym (needed_empty h))))
        | no h ↦
            elim (dec_le b v.length) [
              | yes g ↦ (
                asked_within a b 0 v (omega arith) g,
                g,
                ap (λ (x : Listed). x.count) (e ∙ sym (needed_is (length (range_list a b v)) (omega arith) g refl)),
              )
              | no g ↦ absurd (d (ap (λ (x : Listed). x.count) (e ∙ sym (needed_over (omega arith) (omega arith)))))
            ]
      ]

-- ---- the ways out of a list's call, over the number that comes before 11
-- what is handed over: the answer, and the buffer
abbrev pub Handed : {A : Type 0} → ℕ → List A → List A → Listed → List A → Type 0
Handed number xs out r out' = (r ≡ filled_beside number xs) × (out' ≡ in_front (unless_refused number xs) out)

still : (lower room : ℕ) (xs : List ℕ) → length (unless_refused lower xs) ≡ 0 → list_refusal lower room (length xs) ≡ lower
unfolding list_refusal
still zero room xs e = simp (le-ltb room (length xs) (omega arith))
still (suc lower) room xs e = when_refused (suc lower) _ (suc lower) (omega arith)

-- nothing is needed: refused before, or an empty list
pub handed_none : (lower : ℕ) (xs out : List ℕ) (r : Listed) → r ≡ filled_beside lower xs → r.count ≡ 0
    → Handed (list_refusal lower (length out) (length xs)) xs out r out
handed_none lower xs out r e z =
    let k : length (unless_refused lower xs) ≡ 0 = sym (ap (λ (x : Listed). x.count) e) ∙ z in
    let none : unless_refused lower xs ≡ [] = drop_of_length-le (unless_refused lower xs) {i = 0} (omega arith) in
    rw (still lower (length out) xs k) (e, rw none)

pub handed_short : (lower : ℕ) (xs out : List ℕ) → lower ≡ 0 → length out < length xs
    → Handed (list_refusal lower (length out) (length xs)) xs out (record { number = 11; count = 0 }) out
unfolding list_refusal
handed_short lower xs out e h = rw (e, lt-ltb (length out) (length xs) h) (refl, refl)

pub handed_full : (lower : ℕ) (xs ys out out' : List ℕ) (n : ℕ) → lower ≡ 0 → ys ≡ xs → length xs ≤ length out → out' ≡ in_front ys out → n ≡ length ys
    → Handed (list_refusal lower (length out) (length xs)) xs out (record { number = 0; count = n }) out'
unfolding list_refusal
handed_full lower xs ys out out' n e y h g k = rw (e, le-ltb (length out) (length xs) h, g, k, y) (refl, refl)

-- the front part of the buffer, as long as the count, is what was handed over
pub handed_part : (number : ℕ) (xs out : List ℕ) (r : Listed) (last : List ℕ) → Handed number xs out r last → take r.count last ≡ unless_refused number xs
handed_part number xs out r last h =
    let ys = unless_refused number xs in
    rw h.1 (take_at ys (drop (length ys) out) r.count (sym (ap (λ (x : Listed). x.count) h.0)))

pub handed_count : (number : ℕ) (xs out : List ℕ) (r : Listed) (last : List ℕ) → Handed number xs out r last → r.count ≡ length (take r.count last)
handed_count number xs out r last h =
    ap (λ (x : Listed). x.count) h.0 ∙ sym (ap length (handed_part number xs out r last h))
