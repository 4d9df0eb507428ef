-- How many marks each party has, and with one more.
use Prim.Native.Nat.{ℕ, zero, suc, ◌+◌, ◌-◌, ◌/◌, ◌%◌, ◌^◌, ◌≤◌, ◌<◌, max}
use mathlib.Core.Path.{◌≡◌, refl, sym, ap, ap₂, ◌∙◌, subst}
use mathlib.Core.Bool.{Bool, true, false, cond, ◌||◌, ◌&&◌, true≢false}
use mathlib.Core.List.{List, [], ◌∷◌}
use native.Mathlib.Omega.{arith}
use native.Mathlib.Nat.{mod-eq_of_lt}
use lib.Bits.{and_comm, and_mask}
use lib.Count.{ones}
use lib.Dec.{ltb}
use lib.ListN.{length}
use borrow.Author.Tests.{ltb-false, le-ltb}
use Rattle.styles.specs.declared.Mark.{Mark}
use Rattle.styles.specs.declared.Party.{Party}
use Rattle.styles.specs.declared.Party.TheVariants.{Plant, Lab}
use Rattle.styles.specs.declared.Identity.{Identity}
use Rattle.styles.specs.declared.Stand.{Stand}
use Rattle.styles.specs.declared.Stand.TheVariants.{Before, Same, After}
use Rattle.styles.specs.Order.{id_of, stands, same_id}
use Rattle.styles.specs.Marks.{Sorted, member, insert_step, insert_mark, insert_at, place_of, only, same_party, is_of, of_party}
use Rattle.styles.specs.Bits.{keep_bit, pick, MaskOf}
use Rattle.styles.proofs.Built.{mask_of}
use Rattle.styles.proofs.OrderLaws.{less_flip, more_flip}
use Rattle.styles.proofs.CountLaws.{pick_length}
use Rattle.styles.proofs.MaskLaws.{pick_mask, mask_less}
use Rattle.styles.proofs.PartyLaws.{seen_insert, unseen_insert}
use Rattle.styles.proofs.SetLaws.{member_only}
use Rattle.styles.proofs.UnionLaws.{pick_all}
use Rattle.styles.proofs.Unique.{mask_only}
use Rattle.tank.specs.Rules.{marks_of, needs, crowded}
use Rattle.tank.specs.State.{Roomy}

-- ---- a mark that a set has not makes it one longer
longer_step : (s : Stand) (m x : Mark) (xs rest : List Mark) → stands (id_of m) (id_of x) ≡ s → (same_id (id_of m) (id_of x) || member (id_of m) xs) ≡ false
    → (member (id_of m) xs ≡ false → length rest ≡ suc (length xs)) → length (insert_step s m x xs rest) ≡ suc (suc (length xs))
longer_step Before m x xs rest p e r = refl
longer_step Same m x xs rest p e r = absurd (true≢false (rw p at e))
longer_step After m x xs rest p e r = ap suc (r (rw p at e))

pub insert_longer : (m : Mark) (xs : List Mark) → member (id_of m) xs ≡ false → length (insert_mark m xs) ≡ suc (length xs)
unfolding insert_mark member
insert_longer m [] e = refl
insert_longer m (x ∷ xs) e = longer_step (stands (id_of m) (id_of x)) m x xs (insert_mark m xs) refl e (insert_longer m xs)

-- ---- both parties' marks are all
sum_step : (p : Party) (x : Mark) (a b n : ℕ) (ps ls : List Mark) → x.party ≡ p → length ps ≡ a → length ls ≡ b → a + b ≡ n
    → length (cond (is_of Plant x) (x ∷ ps) ps) + length (cond (is_of Lab x) (x ∷ ls) ls) ≡ suc n
sum_step Plant x a b n ps ls e f g h =
    let u : is_of Plant x ≡ true = ap (same_party Plant) e in
    let v : is_of Lab x ≡ false = ap (same_party Lab) e in
    rw (u, v) (omega arith)
sum_step Lab x a b n ps ls e f g h =
    let u : is_of Plant x ≡ false = ap (same_party Plant) e in
    let v : is_of Lab x ≡ true = ap (same_party Lab) e in
    rw (u, v) (omega arith)

pub parties_all : (xs : List Mark) → marks_of Plant xs + marks_of Lab xs ≡ length xs
unfolding only
parties_all [] = refl
parties_all (x ∷ xs) = sum_step x.party x _ _ _ (of_party Plant xs) (of_party Lab xs) refl refl refl (parties_all xs)

-- where there is room for a mark more, 64 are not carried
pub room_left : (m : Mark) (xs : List Mark) → member (id_of m) xs ≡ false → crowded m xs ≡ false → length xs < 64
unfolding crowded needs
room_left m xs e c =
    let most = ltb-false 64 (needs (insert_mark m xs)) c in
    omega (arith, insert_longer m xs e, parties_all (insert_mark m xs))

-- up to 32 are never crowded, whosever they are
pub few_fit : (m : Mark) (xs : List Mark) → member (id_of m) xs ≡ false → length xs < 32 → crowded m xs ≡ false
unfolding crowded needs
few_fit m xs e h = le-ltb 64 (needs (insert_mark m xs)) (omega (arith, insert_longer m xs e, parties_all (insert_mark m xs)))

-- ---- one more of a party's, or of the other's
module _ (who : Party) (m : Mark) (xs : List Mark) where
  abbrev seen : Identity → Bool
  seen i = same_party who i.party

  pub more_own : is_of who m ≡ true → Sorted xs → member (id_of m) xs ≡ false → marks_of who (insert_mark m xs) ≡ suc (marks_of who xs)
  more_own o s e =
      ap length (seen_insert seen m o xs s)
      ∙ insert_longer m (of_party who xs) (member_only seen (id_of m) xs ∙ ap (λ (b : Bool). seen (id_of m) && b) e ∙ and_no (seen (id_of m)))
    where
      and_no : (b : Bool) → (b && false) ≡ false
      and_no true = refl
      and_no false = refl

  pub more_other : is_of who m ≡ false → marks_of who (insert_mark m xs) ≡ marks_of who xs
  more_other o = ap length (unseen_insert seen m o xs)

-- ---- the bits of a test count the marks that pass it
picked : (g : Mark → Bool) (t : List Mark) → pick t (mask_of g t) ≡ only g t
picked g t =
    ap (pick t) (sym (and_comm (2 ^ length t - 1) (mask_of g t) ∙ and_mask (mask_of g t) (length t) ∙ mod-eq_of_lt (mask_less g t)))
    ∙ pick_mask g t (2 ^ length t - 1)
    ∙ ap (only g) (pick_all t)

pub mask_count : (f : Mark → Bool) (ms : List Mark) (r n : ℕ) → MaskOf f ms r → n ≡ ones r → n ≡ length (only f ms)
mask_count f ms r n h e =
    e ∙ ap ones (mask_only f ms r h)
    ∙ sym (pick_length ms (mask_of f ms) (mask_less f ms))
    ∙ ap length (picked f ms)

-- ---- the test as the code makes it
module _ (m : Mark) (ms : List Mark) (sorted : Sorted ms) (new : member (id_of m) ms ≡ false) (p l : ℕ) (plants : p ≡ marks_of Plant ms) (labs : l ≡ marks_of Lab ms) where
  pub crowded_plant : m.party ≡ Plant → ltb 64 (max (p + 1) 32 + max l 16) ≡ crowded m ms
  unfolding crowded needs
  crowded_plant e =
      let a : p + 1 ≡ marks_of Plant (insert_mark m ms) = omega (arith, more_own Plant m ms (ap (same_party Plant) e) sorted new) in
      let b : l ≡ marks_of Lab (insert_mark m ms) = labs ∙ sym (more_other Lab m ms (ap (same_party Lab) e)) in
      ap₂ (λ (x y : ℕ). ltb 64 (max x 32 + max y 16)) a b

  pub crowded_lab : m.party ≡ Lab → ltb 64 (max p 32 + max (l + 1) 16) ≡ crowded m ms
  unfolding crowded needs
  crowded_lab e =
      let a : l + 1 ≡ marks_of Lab (insert_mark m ms) = omega (arith, more_own Lab m ms (ap (same_party Lab) e) sorted new) in
      let b : p ≡ marks_of Plant (insert_mark m ms) = plants ∙ sym (more_other Plant m ms (ap (same_party Plant) e)) in
      ap₂ (λ (x y : ℕ). ltb 64 (max x 32 + max y 16)) b a

-- ---- what is kept of a table's marks
-- by a mark more that is not crowded out
pub roomy_more : (m : Mark) (ms : List Mark) → crowded m ms ≡ false → Roomy (insert_mark m ms)
unfolding crowded needs
roomy_more m ms c =
    let most = ltb-false 64 (needs (insert_mark m ms)) c in
    record { few = omega (arith, parties_all (insert_mark m ms)); lab = λ _. most }

-- by fewer marks of each party
pub roomy_fewer : (xs ys : List Mark) → Roomy xs → marks_of Plant ys ≤ marks_of Plant xs → marks_of Lab ys ≤ marks_of Lab xs → Roomy ys
unfolding needs
roomy_fewer xs ys r p l =
    record {
      few = omega (arith, r.few, parties_all xs, parties_all ys);
      lab = λ some. let h = r.lab (λ none. some (none_left (of_party Lab ys) (omega (arith, ap length none)))) in omega arith;
    }
  where
    none_left : (zs : List Mark) → length zs ≤ 0 → zs ≡ []
    none_left [] h = refl
    none_left (z ∷ zs) h = absurd (omega arith)

-- so a part of a table's marks keeps it
few_kept : (who : Party) (b : ℕ) (m : Mark) (xs ys : List Mark) → marks_of who ys ≤ marks_of who xs → marks_of who (keep_bit b m ys) ≤ marks_of who (m ∷ xs)
unfolding only
few_kept who zero m xs ys h = go (is_of who m)
  where
    go : (c : Bool) → length (of_party who ys) ≤ length (cond c (m ∷ of_party who xs) (of_party who xs))
    go true = omega arith
    go false = h
few_kept who (suc b) m xs ys h = go (is_of who m)
  where
    go : (c : Bool) → length (cond c (m ∷ of_party who ys) (of_party who ys)) ≤ length (cond c (m ∷ of_party who xs) (of_party who xs))
    go true = omega arith
    go false = h

pick_fewer : (who : Party) (ms : List Mark) (s : ℕ) → marks_of who (pick ms s) ≤ marks_of who ms
unfolding pick
pick_fewer who [] s = omega arith
pick_fewer who (m ∷ ms) s = few_kept who (s % 2) m ms (pick ms (s / 2)) (pick_fewer who ms (s / 2))

pub roomy_pick : (ms : List Mark) (s : ℕ) → Roomy ms → Roomy (pick ms s)
roomy_pick ms s r = roomy_fewer ms (pick ms s) r (pick_fewer Plant ms s) (pick_fewer Lab ms s)

-- a mark put in at its place is a mark more
put_step : (s : Stand) (m x : Mark) (xs : List Mark) → stands (id_of m) (id_of x) ≡ s → member (id_of m) (x ∷ xs) ≡ false
    → (member (id_of m) xs ≡ false → insert_at (place_of (id_of m) xs) m xs ≡ insert_mark m xs)
    → insert_at (place_of (id_of m) (x ∷ xs)) m (x ∷ xs) ≡ insert_step s m x xs (insert_mark m xs)
unfolding insert_at place_of member
put_step Before m x xs p e r = rw (less_flip (id_of m) (id_of x) p) refl
put_step Same m x xs p e r = absurd (true≢false (rw p at e))
put_step After m x xs p e r = rw (more_flip (id_of m) (id_of x) p) (ap (λ (l : List Mark). x ∷ l) (r (rw p at e)))

put_is : (m : Mark) (xs : List Mark) → member (id_of m) xs ≡ false → insert_at (place_of (id_of m) xs) m xs ≡ insert_mark m xs
unfolding insert_mark insert_at place_of
put_is m [] e = refl
put_is m (x ∷ xs) e = put_step (stands (id_of m) (id_of x)) m x xs refl e (put_is m xs)

pub roomy_put : (m : Mark) (ms : List Mark) → member (id_of m) ms ≡ false → crowded m ms ≡ false → Roomy (insert_at (place_of (id_of m) ms) m ms)
roomy_put m ms e c = subst Roomy (sym (put_is m ms e)) (roomy_more m ms c)
