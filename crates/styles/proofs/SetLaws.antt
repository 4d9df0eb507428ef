-- The operations on sets are what their names say: they keep sets sorted, carry what they should, and the winner is the greatest.
use Rattle.std.proofs.Common.{◌≡◌, ℕ, zero, suc, ◌-◌, ◌^◌, ◌<◌, Bool, true, false, not, ◌&&◌, ◌||◌, eqb, List, [], ◌∷◌, length, get_or, Option, None, Some, sym, refl, ap, ◌∙◌, subst, true≢false, arith, eqb-true}
use mathlib.Core.Bool.{false≢true, and-false, or_assoc, or_comm, or_self_left}
use borrow.Author.Tests.{eqb-false}
use Rattle.laws.proofs.Cases.{cond_cases}
use Rattle.styles.specs.declared.Identity.{Identity}
use Rattle.styles.specs.declared.Mark.{Mark}
use Rattle.styles.specs.declared.Stand.{Stand}
use Rattle.styles.specs.declared.Stand.TheVariants.{Before, Same, After}
use Rattle.styles.specs.Order.{stands, id_of, is_before, is_same, less, same_id}
use Rattle.styles.specs.Marks.{Above, Sorted, member, insert_step, insert_mark, either_of, only, remove_mark, common, later, better, winner}
use Rattle.styles.proofs.OrderLaws.{is_before_of, is_same_of, less_trans, less_flip, more_flip, same_flip, same_eq, same_self}
use Rattle.styles.proofs.PickLaws.{above_trans}
use Rattle.styles.proofs.UnionLaws.{above_insert, pick_all}
use Rattle.styles.proofs.WalkLaws.{later_of, sorted_pick}
use Rattle.styles.proofs.MaskLaws.{pick_mask}

-- ---- sets stay sorted
sorted_step : (s : Stand) (m x : Mark) (xs rest : List Mark) → stands (id_of m) (id_of x) ≡ s → Sorted (x ∷ xs) → (s ≡ After → Above (id_of x) rest) → Sorted rest
    → Sorted (insert_step s m x xs rest)
unfolding Sorted Above
sorted_step Before m x xs rest e h k l = ((e, above_trans (id_of m) (id_of x) xs e h.0), h)
sorted_step Same m x xs rest e h k l = h
sorted_step After m x xs rest e h k l = (k refl, l)

pub sorted_insert : (m : Mark) (l : List Mark) → Sorted l → Sorted (insert_mark m l)
unfolding Sorted Above insert_mark
sorted_insert m [] h = (tt, tt)
sorted_insert m (x ∷ xs) h =
    sorted_step (stands (id_of m) (id_of x)) m x xs (insert_mark m xs) refl h
    (λ e. above_insert (id_of x) m xs (more_flip (id_of m) (id_of x) e) h.0)
    (sorted_insert m xs h.1)

pub sorted_only : (f : Mark → Bool) (l : List Mark) → Sorted l → Sorted (only f l)
sorted_only f l h = subst Sorted (pick_mask f l (2 ^ length l - 1) ∙ ap (only f) (pick_all l)) (sorted_pick l _ h)

-- ---- what they carry
swap : (a b c : Bool) → (a || (b || c)) ≡ (b || (a || c))
swap a b c = sym (or_assoc a b c) ∙ ap (λ (x : Bool). x || c) (or_comm a b) ∙ or_assoc b a c

carries_step : (s : Stand) (j : Identity) (m x : Mark) (xs rest : List Mark) → stands (id_of m) (id_of x) ≡ s → member j rest ≡ (same_id j (id_of m) || member j xs)
    → member j (insert_step s m x xs rest) ≡ (same_id j (id_of m) || member j (x ∷ xs))
unfolding member
carries_step Before j m x xs rest e h = refl
carries_step Same j m x xs rest e h =
    sym (or_self_left (same_id j (id_of x)) (member j xs))
    ∙ ap (λ (i : Identity). same_id j i || (same_id j (id_of x) || member j xs)) (sym (same_eq (id_of m) (id_of x) e))
carries_step After j m x xs rest e h = ap (◌||◌ (same_id j (id_of x))) h ∙ swap (same_id j (id_of x)) (same_id j (id_of m)) (member j xs)

-- with one mark more: that identity, and what it carried
pub member_insert : (j : Identity) (m : Mark) (l : List Mark) → member j (insert_mark m l) ≡ (same_id j (id_of m) || member j l)
unfolding member insert_mark
member_insert j m [] = refl
member_insert j m (x ∷ xs) = carries_step (stands (id_of m) (id_of x)) j m x xs (insert_mark m xs) refl (member_insert j m xs)

-- of two sets together: what either carried
pub member_either : (j : Identity) (a b : List Mark) → member j (either_of a b) ≡ (member j a || member j b)
unfolding member either_of
member_either j [] b = refl
member_either j (x ∷ xs) b =
    member_insert j x (either_of xs b) ∙ ap (◌||◌ (same_id j (id_of x))) (member_either j xs b) ∙ sym (or_assoc (same_id j (id_of x)) (member j xs) (member j b))

-- an identity passes a test where one that is the same does
same_passes : (f : Identity → Bool) (i j : Identity) → same_id i j ≡ true → f i ≡ f j
same_passes f i j e = ap f (same_eq i j (is_same_of (stands i j) e))

flipped : (s : Stand) (i j : Identity) → stands i j ≡ s → is_same s ≡ same_id j i
flipped Before i j e = sym (ap is_same (less_flip i j e))
flipped Same i j e = sym (ap is_same (same_flip i j e))
flipped After i j e = sym (ap is_same (more_flip i j e))

keep_both : (s p q r : Bool) → (s ≡ true → p ≡ true) → r ≡ (p && q) → (s || r) ≡ (p && (s || q))
keep_both true true q r f h = refl
keep_both true false q r f h = absurd (false≢true (f refl))
keep_both false p q r f h = h

drop_both : (s p q r : Bool) → (s ≡ true → p ≡ false) → r ≡ (p && q) → r ≡ (p && (s || q))
drop_both true true q r f h = absurd (true≢false (f refl))
drop_both true false q r f h = h
drop_both false p q r f h = h

-- those whose identity passes a test: what it carried and passes
pub member_only : (f : Identity → Bool) (j : Identity) (l : List Mark) → member j (only (λ m. f (id_of m)) l) ≡ (f j && member j l)
unfolding member only
member_only f j [] = sym (and-false (f j))
member_only f j (x ∷ xs) =
    let rest : List Mark = only (λ m. f (id_of m)) xs in
    cond_cases (λ l. member j l ≡ (f j && member j (x ∷ xs))) (f (id_of x))
    (λ e. keep_both (same_id j (id_of x)) (f j) (member j xs) (member j rest) (λ p. same_passes f j (id_of x) p ∙ e) (member_only f j xs))
    (λ e. drop_both (same_id j (id_of x)) (f j) (member j xs) (member j rest) (λ p. same_passes f j (id_of x) p ∙ e) (member_only f j xs))

-- without an identity: all that it carried but that
pub member_remove : (j i : Identity) (l : List Mark) → member j (remove_mark i l) ≡ (not (same_id j i) && member j l)
member_remove j i l = member_only (λ x. not (same_id i x)) j l ∙ ap (λ (a : Bool). not a && member j l) (flipped (stands i j) i j refl)

-- in common: what both carry
pub member_common : (j : Identity) (a b : List Mark) → member j (common a b) ≡ (member j b && member j a)
member_common j a b = member_only (λ i. member i b) j a

-- ---- the winner
not_less : (s t : Stand) (a b c : Identity) → stands a b ≡ s → stands a c ≡ t → is_before s ≡ false → less b c ≡ false → is_before t ≡ false
not_less Before t a b c e f h k = absurd (true≢false h)
not_less Same t a b c e f h k = ap is_before (sym f) ∙ ap (λ (x : Identity). less x c) (same_eq a b e) ∙ k
not_less After Before a b c e f h k = sym (ap is_before (less_trans b a c (more_flip a b e) f)) ∙ k
not_less After Same a b c e f h k = refl
not_less After After a b c e f h k = refl

-- the best of a set for a key: a mark with the key than which no mark with the key is later, or nothing where no mark has it
unfoldable pub Best : ℕ → List Mark → Option Mark → Type 0
Best k l None = (i : ℕ) (d : Mark) → i < length l → (get_or l i d).key ≡ k → ⊥
Best k l (Some w) = (w.key ≡ k) × ((i : ℕ) (d : Mark) → i < length l → (get_or l i d).key ≡ k → later w (get_or l i d) ≡ false)

not_self : (m : Mark) → later m m ≡ false
not_self m = later_of m m refl ∙ ap is_before (same_self (id_of m))

-- what holds of the first mark and of each of the rest holds of each
each_cons : (P : Mark → Type 0) (x : Mark) (xs : List Mark) → P x → ((i : ℕ) (d : Mark) → i < length xs → P (get_or xs i d))
    → (i : ℕ) (d : Mark) → i < suc (length xs) → P (get_or (x ∷ xs) i d)
each_cons P x xs h g zero d l = h
each_cons P x xs h g (suc i) d l = g i d (omega arith)

best_other : (k : ℕ) (x : Mark) (xs : List Mark) (v : Option Mark) → eqb x.key k ≡ false → Best k xs v → Best k (x ∷ xs) v
unfolding Best
best_other k x xs None e h = each_cons (λ m. m.key ≡ k → ⊥) x xs (eqb-false x.key k e) h
best_other k x xs (Some w) e h = (h.0, each_cons (λ m. m.key ≡ k → later w m ≡ false) x xs (λ f. absurd (eqb-false x.key k e f)) h.1)

best_key : (k : ℕ) (x : Mark) (xs : List Mark) (v : Option Mark) → x.key ≡ k → Best k xs v → Best k (x ∷ xs) (better x v)
unfolding Best
best_key k x xs None e h = (e, each_cons (λ m. m.key ≡ k → later x m ≡ false) x xs (λ g. not_self x) (λ i d l g. absurd (h i d l g)))
best_key k x xs (Some y) e h =
    let xy : x.key ≡ y.key = e ∙ sym h.0 in
    cond_cases (Best k (x ∷ xs)) (later x y)
    (λ f. (
      h.0,
      each_cons (λ m. m.key ≡ k → later y m ≡ false) x xs
          (λ g. later_of y x (sym xy) ∙ ap is_before (less_flip (id_of x) (id_of y) (is_before_of (stands (id_of x) (id_of y)) (sym (later_of x y xy) ∙ f))))
          h.1,
    ))
    (λ f. (
      e,
      each_cons (λ m. m.key ≡ k → later x m ≡ false) x xs (λ g. not_self x)
          (λ i d l g.
          let z : Mark = get_or xs i d in
          later_of x z (e ∙ sym g)
          ∙ not_less (stands (id_of x) (id_of y)) (stands (id_of x) (id_of z)) (id_of x) (id_of y) (id_of z) refl refl
          (sym (later_of x y xy) ∙ f)
          (sym (later_of y z (h.0 ∙ sym g)) ∙ h.1 i d l g)),
    ))

-- the winner is the best
pub winner_best : (k : ℕ) (l : List Mark) → Best k l (winner k l)
unfolding Best winner
winner_best k [] = λ i d h e. absurd (omega arith)
winner_best k (x ∷ xs) =
    let h = winner_best k xs in
    cond_cases (Best k (x ∷ xs)) (eqb x.key k) (λ e. best_key k x xs (winner k xs) (eqb-true x.key k e) h) (λ e. best_other k x xs (winner k xs) e h)
