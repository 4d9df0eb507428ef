-- The table walked mark by mark: the marks kept, and the winner for a key.
use Rattle.std.proofs.Common.{◌≡◌, ℕ, zero, suc, ◌+◌, ◌/◌, ◌%◌, ◌^◌, ◌<◌, ◌≤◌, Bool, true, false, cond, eqb, List, [], ◌∷◌, ◌++◌, length, get_or, Option, None, Some, take, sym, refl, ap, ◌∙◌, subst, append_assoc, append-nil, div-one, add-one, arith, length-take, take-suc, eq-eqb, ne_eqb, eqb-true}
use borrow.Author.Tests.{eqb-false}
use Rattle.styles.specs.declared.Identity.{Identity}
use Rattle.styles.specs.declared.Mark.{Mark}
use Rattle.styles.specs.declared.Stand.TheVariants.{Before}
use Rattle.styles.specs.Order.{stands, id_of, less}
use Rattle.styles.specs.Marks.{Above, Sorted, later, better, winner}
use Rattle.styles.specs.Bits.{keep_bit, pick, has_bit}
use Rattle.styles.proofs.OrderLaws.{num_same}
use Rattle.styles.proofs.PickLaws.{keep_by, above_pick}
use Rattle.styles.proofs.BitLaws.{half_shr}
use Rattle.styles.proofs.CountLaws.{length_keep}

-- ---- one mark more at the end of the table
keep_append : (b : ℕ) (x : Mark) (xs ys : List Mark) → keep_bit b x (xs ++ ys) ≡ keep_bit b x xs ++ ys
keep_append zero x xs ys = refl
keep_append (suc b) x xs ys = refl

pick_last : (xs : List Mark) (m : Mark) (s : ℕ) → pick (xs ++ m ∷ []) s ≡ pick xs s ++ keep_bit (s / 2 ^ length xs % 2) m []
unfolding pick
pick_last [] m s = rw (div-one s)
pick_last (x ∷ xs) m s =
    rw (half_shr s (length xs)) (ap (keep_bit (s % 2) x) (pick_last xs m (s / 2)) ∙ keep_append (s % 2) x (pick xs (s / 2)) _)

module _ (t : List Mark) (s k : ℕ) (d : Mark) (within : k < length t) where
  next : pick (take (k + 1) t) s ≡ pick (take k t) s ++ keep_bit (s / 2 ^ k % 2) (get_or t k d) []
  next =
      let e : length (take k t) ≡ k = omega (arith, length-take k t) in
      rw (add-one k, take-suc t k d) (subst (λ (x : ℕ). pick (take k t ++ get_or t k d ∷ []) s ≡ pick (take k t) s ++ keep_bit (s / 2 ^ x % 2) (get_or t k d) []) e (pick_last (take k t) (get_or t k d) s))

  pub next_clear : has_bit k s ≡ false → pick (take (k + 1) t) s ≡ pick (take k t) s
  next_clear h =
      let z : s / 2 ^ k % 2 ≡ 0 = omega (arith, eqb-false (s / 2 ^ k % 2) 1 h) in
      next ∙ (rw z (append-nil _))

  pub next_set : has_bit k s ≡ true → pick (take (k + 1) t) s ≡ pick (take k t) s ++ get_or t k d ∷ []
  next_set h = next ∙ (rw (eqb-true (s / 2 ^ k % 2) 1 h))

pub pick_length_le : (t : List Mark) (s : ℕ) → length (pick t s) ≤ length t
unfolding pick
pick_length_le [] s = omega arith
pick_length_le (m ∷ ms) s = omega (arith, length_keep (s % 2) m (pick ms (s / 2)) (omega arith), pick_length_le ms (s / 2))

-- ---- the winner is the last mark with the key
-- for marks of one key, later is the order of identities
pub later_of : (a b : Mark) → a.key ≡ b.key → later a b ≡ less (id_of a) (id_of b)
unfolding stands
later_of a b e = rw (num_same a.key b.key e)

winner_step : (k : ℕ) (x m : Mark) (w : Option Mark) (a b : Bool) → eqb x.key k ≡ a → eqb m.key k ≡ b → stands (id_of x) (id_of m) ≡ Before
    → cond a (better x (cond b (Some m) w)) (cond b (Some m) w) ≡ cond b (Some m) (cond a (better x w) w)
winner_step k x m w true true e f h =
    rw (later_of x m (omega (arith, eqb-true x.key k e, eqb-true m.key k f)), h)
winner_step k x m w true false e f h = refl
winner_step k x m w false true e f h = refl
winner_step k x m w false false e f h = refl

above_last : (j : Identity) (xs : List Mark) (m : Mark) → Above j (xs ++ m ∷ []) → stands j (id_of m) ≡ Before
unfolding Above
above_last j [] m h = h.0
above_last j (x ∷ xs) m h = above_last j xs m h.1

pub winner_last : (k : ℕ) (xs : List Mark) (m : Mark) → Sorted (xs ++ m ∷ []) → winner k (xs ++ m ∷ []) ≡ cond (eqb m.key k) (Some m) (winner k xs)
unfolding winner Sorted
winner_last k [] m h = refl
winner_last k (x ∷ xs) m h =
    ap (λ (w : Option Mark). cond (eqb x.key k) (better x w) w) (winner_last k xs m h.1)
    ∙ winner_step k x m (winner k xs) (eqb x.key k) (eqb m.key k) refl refl (above_last (id_of x) xs m h.0)

pub sorted_pick : (t : List Mark) (s : ℕ) → Sorted t → Sorted (pick t s)
unfolding Sorted pick
sorted_pick [] s h = tt
sorted_pick (m ∷ ms) s h = let k = sorted_pick ms (s / 2) h.1 in keep_by Sorted (s % 2) k (above_pick (id_of m) ms (s / 2) h.0, k)

-- ---- the walk up to the winner: so far wins the last mark with the key among those passed
above_front : (j : Identity) (xs ys : List Mark) → Above j (xs ++ ys) → Above j xs
unfolding Above
above_front j [] ys h = tt
above_front j (x ∷ xs) ys h = (h.0, above_front j xs ys h.1)

sorted_front : (xs ys : List Mark) → Sorted (xs ++ ys) → Sorted xs
unfolding Sorted
sorted_front [] ys h = tt
sorted_front (x ∷ xs) ys h = (above_front (id_of x) xs ys h.0, sorted_front xs ys h.1)

-- of a set's marks some are passed and some are left, and `best` is the winner of the passed ones
pub record Walked (key : ℕ) (marks left : List Mark) (best : Option Mark) : Type 0 where
  pub passed : List Mark
  pub split : passed ++ left ≡ marks
  pub best_is : best ≡ winner key passed

pub walk_begun : (key : ℕ) (marks : List Mark) → Walked key marks marks None
unfolding winner
walk_begun key marks = record { passed = []; split = refl; best_is = refl }

module _ {key : ℕ} {marks rest : List Mark} {best : Option Mark} {m : Mark} (sorted : Sorted marks) (w : Walked key marks (m ∷ rest) best) where
  on : (w.passed ++ m ∷ []) ++ rest ≡ marks
  on = append_assoc w.passed (m ∷ []) rest ∙ w.split

  then_best : winner key (w.passed ++ m ∷ []) ≡ cond (eqb m.key key) (Some m) (winner key w.passed)
  then_best = winner_last key w.passed m (sorted_front (w.passed ++ m ∷ []) rest (subst Sorted (sym on) sorted))

  pub walk_here : m.key ≡ key → Walked key marks rest (Some m)
  walk_here e = record { passed = w.passed ++ m ∷ []; split = on; best_is = sym (rw (eq-eqb m.key key e) at then_best) }

  pub walk_other : (m.key ≡ key → ⊥) → Walked key marks rest best
  walk_other e = record { passed = w.passed ++ m ∷ []; split = on; best_is = w.best_is ∙ sym (rw (ne_eqb m.key key e) at then_best) }

pub walk_over : {key : ℕ} {marks : List Mark} {best : Option Mark} → Walked key marks [] best → best ≡ winner key marks
walk_over {key} w = w.best_is ∙ ap (winner key) (sym (append-nil w.passed) ∙ w.split)
