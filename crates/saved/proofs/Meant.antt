-- What is written down of a tank's positions is what the tank stores: its table and its runs.
use mathlib.Core.Path.{◌≡◌, refl, sym, ap, ap₂, ◌∙◌}
use mathlib.Core.Bool.{Bool, cond}
use mathlib.Core.List.{List, [], ◌∷◌}
use Prim.Native.Nat.{ℕ, zero, suc, ◌+◌, ◌-◌, ◌*◌, ◌/◌, ◌%◌, ◌^◌, ◌≤◌, ◌<◌, min, max}
use native.Mathlib.Omega.{arith}
use native.Mathlib.Nat.{div-one, pow-suc, pow-zero}
use lib.Dec.{eqb}
use lib.ListN.{length}
use borrow.Author.Tests.{lt-ltb}
use Rattle.styles.specs.declared.Mark.{Mark}
use Rattle.styles.specs.Order.{id_of}
use Rattle.styles.specs.Marks.{member, Above, Sorted, blank}
use Rattle.styles.specs.Bits.{pick, keep_bit}
use Rattle.styles.proofs.MaskLaws.{member_pick}
use Rattle.styles.proofs.OrderLaws.{less_flip}
use Rattle.styles.proofs.CountLaws.{pick_length}
use Rattle.runs.specs.Positions.{stretches_at}
use Rattle.runs.specs.Runs.{Run, run, total, set_at, Canon}
use Rattle.runs.specs.Stretches.{alike_in, marks_in}
use Rattle.runs.proofs.Clipped.{clipped}
use Rattle.runs.proofs.PositionLaws.{at_ext, clipped_is}
use Rattle.runs.proofs.Laws.{at_in, at_last}
use Rattle.tank.specs.declared.Tank.{Tank}
use Rattle.runs.specs.Gather.{gather}
use Rattle.styles.proofs.UnionLaws.{pick_all}
use lib.Pow.{pow_pos}
use Rattle.tank.specs.Rules.{alike, gathered, carried}
use Rattle.tank.specs.State.{runs_of, table_of, view, Formed}
use Rattle.tank.proofs.Counted.{at_inside, alike_at}
use Rattle.tank.proofs.Carried.{gathered_is}
use Rattle.tank.proofs.Unique.{table_length}
use Rattle.lists.specs.Lists.{stretches_over}
use Rattle.saved.specs.Saved.{Saved, numbered, runs_as, saved_of}
use Rattle.saved.specs.Saying.{view_in}

-- ---- the number of a set is the set's bits
numbered_skip : (m : Mark) (ms l : List Mark) → Above (id_of m) ms → numbered ms (m ∷ l) ≡ numbered ms l
unfolding numbered Above member
numbered_skip m [] l h = refl
numbered_skip m (x ∷ xs) l h = rw (less_flip (id_of m) (id_of x) h.0) (rw (numbered_skip m xs l h.1))

numbered_keep : (b : ℕ) (m : Mark) (ms l : List Mark) → Above (id_of m) ms → numbered ms (keep_bit b m l) ≡ numbered ms l
numbered_keep zero m ms l h = refl
numbered_keep (suc b) m ms l h = numbered_skip m ms l h

bit_of : (b : ℕ) → b < 2 → cond (eqb b 1) 1 0 ≡ b
bit_of zero h = refl
bit_of (suc zero) h = refl
bit_of (suc (suc b)) h = absurd (omega arith)

pub numbered_pick : (ms : List Mark) (s : ℕ) → Sorted ms → s < 2 ^ length ms → numbered ms (pick ms s) ≡ s
unfolding numbered pick Sorted
numbered_pick [] s k h = omega (arith, pow-zero 2)
numbered_pick (m ∷ ms) s k h =
    let e : member (id_of m) (pick (m ∷ ms) s) ≡ eqb (s % 2) 1 = member_pick (m ∷ ms) 0 blank s (omega arith) k ∙ ap (λ (x : ℕ). eqb (x % 2) 1) (ap (λ (y : ℕ). s / y) (pow-zero 2) ∙ div-one s) in
    let r : numbered ms (pick (m ∷ ms) s) ≡ s / 2 = numbered_keep (s % 2) m ms (pick ms (s / 2)) k.0 ∙ numbered_pick ms (s / 2) k.1 (omega (arith, pow-suc 2 (length ms))) in
    ap₂ (λ (a : ℕ) (b : Bool). a * 2 + cond b 1 0) r e ∙ ap (λ (b : ℕ). s / 2 * 2 + b) (bit_of (s % 2) (omega arith)) ∙ omega arith

-- ---- the runs of the stretches are the runs
pub runs_clipped : (number : ℕ → ℕ) (to : ℕ) (rs : List Run) → Canon rs → total rs ≤ to → ((p : ℕ) → p < total rs → number p ≡ set_at rs p) → runs_as number (clipped 0 to rs) ≡ rs
unfolding runs_as clipped Canon total
runs_clipped number to [] c h e = refl
runs_clipped number to (r ∷ rs) c h e =
    let low : max 0 (total rs) ≡ total rs = omega arith in
    let high : min to (total rs + r.len) ≡ total rs + r.len = omega arith in
    let l : total rs + r.len - total rs ≡ r.len = omega arith in
    let rest = runs_clipped number to rs c.2 (omega arith) (λ p g. e p (omega arith) ∙ at_in r rs p g) in
    rw low
    (rw high
    (rw (lt-ltb (total rs) (total rs + r.len) (omega (arith, c.0)))
    (λ i. run (l i) ((e (total rs) (omega (arith, c.0)) ∙ at_last r rs (total rs) (omega arith) (omega (arith, c.0))) i) ∷ rest i)))

-- ---- a tank that was written down
-- what is asked of it, so that its meaning says it back: sorted marks, joined runs that sum to the length, each mark in some run
pub record Faithful (s : Saved) : Type 0 where
  pub sorted : Sorted s.marks
  pub canon : Canon s.runs
  pub sum : s.length ≡ total s.runs
  pub whole : gather s.runs ≡ 2 ^ length s.marks - 1

module _ (s : Saved) (f : Faithful s) where
  inside : gather s.runs < 2 ^ length s.marks
  inside = omega (arith, f.whole, pow_pos (length s.marks))

  over : (b : ℕ) → stretches_at (alike_in s.runs) (marks_in s.runs) 0 b ≡ stretches_over 0 b (view_in s)
  over b =
      at_ext (alike_in s.runs) (alike (view_in s).at) (marks_in s.runs) (λ p. length ((view_in s).at p)) 0 b
      (λ p x y. sym (alike_at s.marks s.runs f.sorted inside p (suc p)))
      (λ p x y. sym (pick_length s.marks (set_at s.runs p) (at_inside s.runs (length s.marks) p inside)))

  marks_are : carried (view_in s) ≡ s.marks
  marks_are =
      ap (gathered (view_in s).at) f.sum
      ∙ gathered_is s.marks f.sorted s.runs f.canon
      ∙ ap (pick s.marks) f.whole
      ∙ pick_all s.marks

  number_is : (p : ℕ) → numbered (carried (view_in s)) ((view_in s).at p) ≡ set_at s.runs p
  number_is p =
      ap (λ (l : List Mark). numbered l ((view_in s).at p)) marks_are
      ∙ numbered_pick s.marks (set_at s.runs p) f.sorted (at_inside s.runs (length s.marks) p inside)

  runs_are_lem : runs_as (λ p. numbered (carried (view_in s)) ((view_in s).at p)) (stretches_over 0 s.length (view_in s)) ≡ s.runs
  runs_are_lem =
      ap (runs_as (λ p. numbered (carried (view_in s)) ((view_in s).at p))) (sym (over s.length) ∙ sym (clipped_is s.runs 0 s.length f.canon (omega (arith, f.sum))))
      ∙ runs_clipped (λ p. numbered (carried (view_in s)) ((view_in s).at p)) s.length s.runs f.canon (omega (arith, f.sum)) (λ p g. number_is p)

  -- its meaning, written down, is what was written down
  pub said_back : saved_of (view_in s) ≡ s
  unfolding saved_of
  said_back = λ i. record { touched = s.touched; length = s.length; marks = marks_are i; runs = runs_are_lem i }

-- ---- a tank in form
-- what it stores
abbrev pub stored_in : Tank → Saved
stored_in t = record { touched = t.touched; length = t.length; marks = table_of t; runs = runs_of t }

pub faithful : {t : Tank} → Formed t → Faithful (stored_in t)
faithful {t} f = record { sorted = f.laid.sorted; canon = f.laid.canon; sum = f.laid.sum; whole = f.whole ∙ ap (λ (n : ℕ). 2 ^ n - 1) (sym (table_length f.laid)) }

-- the meaning of a tank, written down, is what it stores
pub saved_is : {t : Tank} → Formed t → saved_of (view t) ≡ stored_in t
unfolding view
saved_is {t} f = said_back (stored_in t) (faithful f)
