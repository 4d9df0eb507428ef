-- The bits of a test taken off a set leave the marks for which it does not hold; and what is done to the marks of one party is not seen among the other's.
use Rattle.std.proofs.Common.{◌≡◌, ℕ, zero, suc, ◌+◌, ◌-◌, ◌*◌, ◌/◌, ◌%◌, ◌<◌, min, Bool, true, false, cond, not, ◌&&◌, List, [], ◌∷◌, sym, refl, ap, ◌∙◌, arith}
use mathlib.Core.Bool.{false≢true}
use lib.Bits.{bit_and, and_step, and_le_l}
use Rattle.styles.specs.declared.Identity.{Identity}
use Rattle.styles.specs.declared.Mark.{Mark}
use Rattle.styles.specs.declared.Stand.{Stand}
use Rattle.styles.specs.declared.Stand.TheVariants.{Before, Same, After}
use Rattle.styles.specs.Order.{stands, id_of, same_id}
use Rattle.styles.specs.Marks.{Above, Sorted, member, insert_step, insert_mark, only, remove_mark, common}
use Rattle.styles.specs.Bits.{keep_bit, pick, lacking_bits}
use Rattle.styles.proofs.Built.{as_bit, mask_of}
use Rattle.laws.proofs.Cases.{cond_by}
use Rattle.styles.proofs.OrderLaws.{same_eq}
use Rattle.styles.proofs.SetLaws.{member_only}
use Rattle.styles.proofs.PickLaws.{pick_cons, insert_first, above_trans}

only_lacks : (b : ℕ) (a : Bool) (f : Mark → Bool) (m : Mark) (ms : List Mark) → f m ≡ a → b < 2
    → keep_bit (b - min b (as_bit a)) m (only (λ x. not (f x)) ms) ≡ only (λ x. not (f x)) (keep_bit b m ms)
unfolding only
only_lacks zero a f m ms e h = let g : 0 - min 0 (as_bit a) ≡ 0 = omega arith in rw g
only_lacks (suc b) true f m ms e h = let g : suc b - min (suc b) 1 ≡ 0 = omega arith in rw (e, g)
only_lacks (suc b) false f m ms e h = let g : suc b - min (suc b) 0 ≡ suc b = omega arith in rw (e, g)

bit_low : (a : Bool) → as_bit a < 2
bit_low true = omega arith
bit_low false = omega arith

pub pick_lacks : (f : Mark → Bool) (t : List Mark) (s : ℕ) → pick t (lacking_bits s (mask_of f t)) ≡ only (λ m. not (f m)) (pick t s)
unfolding pick mask_of only
pick_lacks f [] s = refl
pick_lacks f (m ∷ ms) s =
    let l = bit_low (f m) in
    let e : (mask_of f ms * 2 + as_bit (f m)) / 2 ≡ mask_of f ms = omega arith in
    let g : (mask_of f ms * 2 + as_bit (f m)) % 2 ≡ as_bit (f m) = omega arith in
    let a : bit_and s (mask_of f ms * 2 + as_bit (f m)) ≡ bit_and (s / 2) (mask_of f ms) * 2 + min (s % 2) (as_bit (f m)) =
    rw (e, g) at (and_step s (mask_of f ms * 2 + as_bit (f m)))
    in
    let le = and_le_l (s / 2) (mask_of f ms) in
    let d : s - bit_and s (mask_of f ms * 2 + as_bit (f m)) ≡ (s / 2 - bit_and (s / 2) (mask_of f ms)) * 2 + (s % 2 - min (s % 2) (as_bit (f m))) = omega arith in
    ap (pick (m ∷ ms)) d
    ∙ pick_cons m ms (lacking_bits (s / 2) (mask_of f ms)) (s % 2 - min (s % 2) (as_bit (f m))) (omega arith)
    ∙ ap (keep_bit (s % 2 - min (s % 2) (as_bit (f m))) m) (pick_lacks f ms (s / 2))
    ∙ only_lacks (s % 2) (f m) f m (pick ms (s / 2)) refl (omega arith)

-- ---- the marks that pass a test of their identity
-- two tests in either order
only_swap : (f g : Mark → Bool) (xs : List Mark) → only f (only g xs) ≡ only g (only f xs)
unfolding only
only_swap f g [] = refl
only_swap f g (x ∷ xs) = go (only_swap f g xs) (f x) (g x) refl refl
  where
    go : only f (only g xs) ≡ only g (only f xs) → (a b : Bool) → f x ≡ a → g x ≡ b → only f (cond (g x) (x ∷ only g xs) (only g xs)) ≡ only g (cond (f x) (x ∷ only f xs) (only f xs))
    go r true true p q = simp (p, q) (ap (λ (l : List Mark). x ∷ l) r)
    go r true false p q = simp (p, q) r
    go r false true p q = simp (p, q) r
    go r false false p q = simp (p, q) r

-- two tests that agree on all that pass a third
only_under : (f g h : Mark → Bool) → ((m : Mark) → h m ≡ true → f m ≡ g m) → (xs : List Mark) → only f (only h xs) ≡ only g (only h xs)
unfolding only
only_under f g h same [] = refl
only_under f g h same (x ∷ xs) = go (only_under f g h same xs) (h x) refl
  where
    go : only f (only h xs) ≡ only g (only h xs) → (b : Bool) → h x ≡ b → only f (cond (h x) (x ∷ only h xs) (only h xs)) ≡ only g (cond (h x) (x ∷ only h xs) (only h xs))
    go r true e = rw (e, same x e, r)
    go r false e = rw e r

-- a test that all that pass another pass
only_all : (f h : Mark → Bool) → ((m : Mark) → h m ≡ true → f m ≡ true) → (xs : List Mark) → only f (only h xs) ≡ only h xs
unfolding only
only_all f h all [] = refl
only_all f h all (x ∷ xs) = go (only_all f h all xs) (h x) refl
  where
    go : only f (only h xs) ≡ only h xs → (b : Bool) → h x ≡ b → only f (cond (h x) (x ∷ only h xs) (only h xs)) ≡ cond (h x) (x ∷ only h xs) (only h xs)
    go r true e = rw (e, all x e) (ap (λ (l : List Mark). x ∷ l) r)
    go r false e = rw e r

module _ (seen : Identity → Bool) where
  abbrev pub shows : Mark → Bool
  shows m = seen (id_of m)

  -- a removal of what is seen is seen
  pub seen_remove : (i : Identity) (xs : List Mark) → only shows (remove_mark i xs) ≡ remove_mark i (only shows xs)
  seen_remove i xs = only_swap shows (λ m. not (same_id i (id_of m))) xs

  -- and one of what is not is not
  pub unseen_remove : (i : Identity) → seen i ≡ false → (xs : List Mark) → only shows (remove_mark i xs) ≡ only shows xs
  unseen_remove i e xs =
      seen_remove i xs
      ∙ only_all (λ m. not (same_id i (id_of m))) shows
      (λ m h. other m (stands i (id_of m)) refl h) xs
    where
      other : (m : Mark) (s : Stand) → stands i (id_of m) ≡ s → shows m ≡ true → not (same_id i (id_of m)) ≡ true
      other m Before p h = rw p
      other m Same p h = absurd (false≢true (sym e ∙ ap seen (same_eq i (id_of m) p) ∙ h))
      other m After p h = rw p

  -- what two sets have in common is seen as what is seen of both has
  pub seen_common : (xs ys : List Mark) → only shows (common xs ys) ≡ common (only shows xs) (only shows ys)
  seen_common xs ys =
      only_swap shows (λ m. member (id_of m) ys) xs
      ∙ only_under (λ m. member (id_of m) ys) (λ m. member (id_of m) (only shows ys)) shows
      (λ m h. sym (member_only seen (id_of m) ys ∙ ap (λ (b : Bool). b && member (id_of m) ys) h)) xs

  -- an identity that is seen is carried where it is among what is seen
  pub seen_member : (j : Identity) → seen j ≡ true → (l : List Mark) → member j (only shows l) ≡ member j l
  seen_member j e l = member_only seen j l ∙ ap (λ (b : Bool). b && member j l) e

  -- a mark more that is not seen
  pub unseen_insert : (m : Mark) → seen (id_of m) ≡ false → (xs : List Mark) → only shows (insert_mark m xs) ≡ only shows xs
  unfolding only insert_mark
  unseen_insert m e [] = rw e
  unseen_insert m e (x ∷ xs) = go (unseen_insert m e xs) (stands (id_of m) (id_of x))
    where
      go : only shows (insert_mark m xs) ≡ only shows xs → (s : Stand) → only shows (insert_step s m x xs (insert_mark m xs)) ≡ only shows (x ∷ xs)
      go r Before = rw e
      go r Same = refl
      go r After = ap (λ (l : List Mark). cond (seen (id_of x)) (x ∷ l) l) r

  above_only : (i : Identity) (xs : List Mark) → Above i xs → Above i (only shows xs)
  unfolding only Above
  above_only i [] h = tt
  above_only i (x ∷ xs) h = let k = above_only i xs h.1 in cond_by (Above i) (shows x) (h.0, k) k

  -- and one that is
  pub seen_insert : (m : Mark) → seen (id_of m) ≡ true → (xs : List Mark) → Sorted xs → only shows (insert_mark m xs) ≡ insert_mark m (only shows xs)
  unfolding only insert_mark Sorted
  seen_insert m e [] h = rw e
  seen_insert m e (x ∷ xs) h = go (seen_insert m e xs h.1) (stands (id_of m) (id_of x)) refl
    where
      -- before the first, so before all that is seen
      first : stands (id_of m) (id_of x) ≡ Before → Above (id_of m) (only shows (x ∷ xs))
      first p = above_only (id_of m) (x ∷ xs) (p, above_trans (id_of m) (id_of x) xs p h.0)

      tail : only shows (insert_mark m xs) ≡ insert_mark m (only shows xs) → stands (id_of m) (id_of x) ≡ After → (b : Bool)
          → cond b (x ∷ only shows (insert_mark m xs)) (only shows (insert_mark m xs)) ≡ insert_mark m (cond b (x ∷ only shows xs) (only shows xs))
      tail r p true = rw p (ap (λ (l : List Mark). x ∷ l) r)
      tail r p false = r

      go : only shows (insert_mark m xs) ≡ insert_mark m (only shows xs) → (s : Stand) → stands (id_of m) (id_of x) ≡ s
          → only shows (insert_step s m x xs (insert_mark m xs)) ≡ insert_mark m (cond (shows x) (x ∷ only shows xs) (only shows xs))
      go r Before p = rw e (sym (insert_first m (cond (shows x) (x ∷ only shows xs) (only shows xs)) (first p)))
      go r Same p =
          let q : shows x ≡ true = ap seen (sym (same_eq (id_of m) (id_of x) p)) ∙ e in
          rw (q, p)
      go r After p = tail r p (shows x)
