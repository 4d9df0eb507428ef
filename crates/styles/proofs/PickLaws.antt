-- What an edit of a bit set does to the marks that it picks.
use Rattle.std.proofs.Common.{◌≡◌, ℕ, zero, suc, ◌+◌, ◌*◌, ◌/◌, ◌%◌, ◌<◌, min, Bool, false, cond, List, [], ◌∷◌, length, get_or, sym, refl, ap, ◌∙◌, add-zero, arith}
use native.Mathlib.Nat.{zero-min, min-zero, suc-min-suc}
use lib.Bits.{bit_and, and_step}
use Rattle.styles.specs.declared.Identity.{Identity}
use Rattle.styles.specs.declared.Mark.{Mark}
use Rattle.styles.specs.declared.Stand.TheVariants.{Before}
use Rattle.styles.specs.Order.{stands, id_of}
use Rattle.styles.specs.Marks.{Above, Sorted, member, insert_mark, only, remove_mark, common, insert_at}
use Rattle.styles.specs.Bits.{keep_bit, pick, open_bit, with_bit, without_bit}
use Rattle.styles.proofs.BitLaws.{open_zero, open_suc, with_zero, with_suc, without_zero, without_suc}
use Rattle.styles.proofs.OrderLaws.{less_trans, less_flip, same_self}

-- the lowest bit decides on the first mark, the others on the rest
pub pick_cons : (m : Mark) (ms : List Mark) (q b : ℕ) → b < 2 → pick (m ∷ ms) (q * 2 + b) ≡ keep_bit b m (pick ms q)
unfolding pick
pick_cons m ms q b h =
    let e : (q * 2 + b) % 2 ≡ b = omega arith in
    let f : (q * 2 + b) / 2 ≡ q = omega arith in
    rw (e, f)

pub pick_even : (m : Mark) (ms : List Mark) (q : ℕ) → pick (m ∷ ms) (q * 2) ≡ pick ms q
pick_even m ms q = ap (pick (m ∷ ms)) (sym (add-zero (q * 2))) ∙ pick_cons m ms q 0 (omega arith)

-- what holds with a mark and without it holds of the mark kept or not
pub keep_by : (P : List Mark → Type 0) (b : ℕ) {m : Mark} {ms : List Mark} → P ms → P (m ∷ ms) → P (keep_bit b m ms)
keep_by P zero h g = h
keep_by P (suc b) h g = g

-- ---- a mark new to the table
pub pick_open : (i : ℕ) (m : Mark) (t : List Mark) (s : ℕ) → pick (insert_at i m t) (open_bit i s) ≡ pick t s
unfolding insert_at pick
pick_open zero m t s = ap (pick (m ∷ t)) (open_zero s) ∙ pick_even m t s
pick_open (suc i) m [] s = refl
pick_open (suc i) m (x ∷ xs) s =
    ap (pick (x ∷ insert_at i m xs)) (open_suc i s)
    ∙ pick_cons x (insert_at i m xs) (open_bit i (s / 2)) (s % 2) (omega arith) ∙ ap (keep_bit (s % 2) x) (pick_open i m xs (s / 2))

-- what comes before each mark of the table comes before each picked
pub above_pick : (i : Identity) (t : List Mark) (s : ℕ) → Above i t → Above i (pick t s)
unfolding Above pick
above_pick i [] s h = tt
above_pick i (m ∷ ms) s h = let k = above_pick i ms (s / 2) h.1 in keep_by (Above i) (s % 2) k (h.0, k)

-- ---- a set with one mark more
pub insert_first : (m : Mark) (ms : List Mark) → Above (id_of m) ms → insert_mark m ms ≡ m ∷ ms
unfolding insert_mark Above
insert_first m [] h = refl
insert_first m (x ∷ xs) h = rw h.0

pub insert_past : (m x : Mark) (xs : List Mark) → stands (id_of x) (id_of m) ≡ Before → insert_mark m (x ∷ xs) ≡ x ∷ insert_mark m xs
unfolding insert_mark
insert_past m x xs h = rw (less_flip (id_of x) (id_of m) h)

insert_keep : (b : ℕ) (m x : Mark) (xs : List Mark) → stands (id_of x) (id_of m) ≡ Before → keep_bit b x (insert_mark m xs) ≡ insert_mark m (keep_bit b x xs)
insert_keep zero m x xs h = refl
insert_keep (suc b) m x xs h = sym (insert_past m x xs h)

-- ---- a mark of the table
pub above_at : (j : Identity) (t : List Mark) (i : ℕ) (d : Mark) → i < length t → Above j t → stands j (id_of (get_or t i d)) ≡ Before
unfolding Above
above_at j [] i d h k = absurd (omega arith)
above_at j (m ∷ ms) zero d h k = k.0
above_at j (m ∷ ms) (suc i) d h k = above_at j ms i d (omega arith) k.1

insert_again : (b : ℕ) (m : Mark) (ms : List Mark) → Above (id_of m) ms → m ∷ ms ≡ insert_mark m (keep_bit b m ms)
unfolding insert_mark
insert_again zero m ms h = sym (insert_first m ms h)
insert_again (suc b) m ms h = rw (same_self (id_of m))

-- its bit set: the set with it, and as it was where it had it
pub pick_with : (t : List Mark) (i : ℕ) (d : Mark) (s : ℕ) → i < length t → Sorted t → pick t (with_bit i s) ≡ insert_mark (get_or t i d) (pick t s)
unfolding pick Sorted
pick_with [] i d s h k = absurd (omega arith)
pick_with (m ∷ ms) zero d s h k =
    ap (pick (m ∷ ms)) (with_zero s) ∙ pick_cons m ms (s / 2) 1 (omega arith) ∙ insert_again (s % 2) m (pick ms (s / 2)) (above_pick (id_of m) ms (s / 2) k.0)
pick_with (m ∷ ms) (suc i) d s h k =
    ap (pick (m ∷ ms)) (with_suc i s)
    ∙ pick_cons m ms (with_bit i (s / 2)) (s % 2) (omega arith)
    ∙ ap (keep_bit (s % 2) m) (pick_with ms i d (s / 2) (omega arith) k.1)
    ∙ insert_keep (s % 2) (get_or ms i d) m (pick ms (s / 2)) (above_at (id_of m) ms i d (omega arith) k.0)

-- ---- a set with one mark less
pub remove_above : (i : Identity) (ms : List Mark) → Above i ms → remove_mark i ms ≡ ms
unfolding only Above
remove_above i [] h = refl
remove_above i (m ∷ ms) h = rw h.0 (ap (◌∷◌ m) (remove_above i ms h.1))

remove_first : (b : ℕ) (m : Mark) (ms : List Mark) → Above (id_of m) ms → ms ≡ remove_mark (id_of m) (keep_bit b m ms)
unfolding only
remove_first zero m ms h = sym (remove_above (id_of m) ms h)
remove_first (suc b) m ms h = rw (same_self (id_of m)) (sym (remove_above (id_of m) ms h))

remove_keep : (b : ℕ) (i : Identity) (x : Mark) (xs : List Mark) → stands (id_of x) i ≡ Before → keep_bit b x (remove_mark i xs) ≡ remove_mark i (keep_bit b x xs)
unfolding only
remove_keep zero i x xs h = refl
remove_keep (suc b) i x xs h = rw (less_flip (id_of x) i h)

pub pick_without : (t : List Mark) (i : ℕ) (d : Mark) (s : ℕ) → i < length t → Sorted t
    → pick t (without_bit i s) ≡ remove_mark (id_of (get_or t i d)) (pick t s)
unfolding pick Sorted
pick_without [] i d s h k = absurd (omega arith)
pick_without (m ∷ ms) zero d s h k =
    ap (pick (m ∷ ms)) (without_zero s) ∙ pick_even m ms (s / 2) ∙ remove_first (s % 2) m (pick ms (s / 2)) (above_pick (id_of m) ms (s / 2) k.0)
pick_without (m ∷ ms) (suc i) d s h k =
    ap (pick (m ∷ ms)) (without_suc i s)
    ∙ pick_cons m ms (without_bit i (s / 2)) (s % 2) (omega arith)
    ∙ ap (keep_bit (s % 2) m) (pick_without ms i d (s / 2) (omega arith) k.1)
    ∙ remove_keep (s % 2) (id_of (get_or ms i d)) m (pick ms (s / 2)) (above_at (id_of m) ms i d (omega arith) k.0)

-- ---- what two sets have in common
pub not_member : (i : Identity) (ms : List Mark) → Above i ms → member i ms ≡ false
unfolding member Above
not_member i [] h = refl
not_member i (m ∷ ms) h = rw h.0 (not_member i ms h.1)

-- a mark that comes before all of the first set is none of theirs
pub only_skip : (f : Bool → Bool) (m : Mark) (xs ys : List Mark) → Above (id_of m) xs
    → only (λ x. f (member (id_of x) (m ∷ ys))) xs ≡ only (λ x. f (member (id_of x) ys)) xs
unfolding only member Above
only_skip f m [] ys h = refl
only_skip f m (x ∷ xs) ys h =
    rw (less_flip (id_of m) (id_of x) h.0) (ap (λ (l : List Mark). cond (f (member (id_of x) ys)) (x ∷ l) l) (only_skip f m xs ys h.1))

common_keep : (b c : ℕ) (m : Mark) (xs ys : List Mark) → Above (id_of m) xs → Above (id_of m) ys
    → keep_bit (min b c) m (common xs ys) ≡ common (keep_bit b m xs) (keep_bit c m ys)
unfolding only member
common_keep zero zero m xs ys h k = refl
common_keep zero (suc c) m xs ys h k = rw (zero-min (suc c)) (sym (only_skip (λ b. b) m xs ys h))
common_keep (suc b) zero m xs ys h k = rw (min-zero (suc b), not_member (id_of m) ys k)
common_keep (suc b) (suc c) m xs ys h k = rw (suc-min-suc b c, same_self (id_of m)) (ap (◌∷◌ m) (sym (only_skip (λ b. b) m xs ys h)))

-- an operation on two sets that goes bit by bit picks what g makes of the marks that they pick, where one mark more is one bit more
pub pick_op : (op bit : ℕ → ℕ → ℕ) (g : List Mark → List Mark → List Mark) → ((s u : ℕ) → op s u ≡ op (s / 2) (u / 2) * 2 + bit (s % 2) (u % 2))
    → ((s u : ℕ) → bit (s % 2) (u % 2) < 2) → g [] [] ≡ []
    → ((s u : ℕ) (m : Mark) (xs ys : List Mark) → Above (id_of m) xs → Above (id_of m) ys
    → keep_bit (bit (s % 2) (u % 2)) m (g xs ys) ≡ g (keep_bit (s % 2) m xs) (keep_bit (u % 2) m ys))
    → (t : List Mark) (s u : ℕ) → Sorted t → pick t (op s u) ≡ g (pick t s) (pick t u)
unfolding pick Sorted
pick_op op bit g step low none keep [] s u h = sym none
pick_op op bit g step low none keep (m ∷ ms) s u h =
    ap (pick (m ∷ ms)) (step s u)
    ∙ pick_cons m ms (op (s / 2) (u / 2)) (bit (s % 2) (u % 2)) (low s u)
    ∙ ap (keep_bit (bit (s % 2) (u % 2)) m) (pick_op op bit g step low none keep ms (s / 2) (u / 2) h.1)
    ∙ keep s u m (pick ms (s / 2)) (pick ms (u / 2)) (above_pick (id_of m) ms (s / 2) h.0) (above_pick (id_of m) ms (u / 2) h.0)

pub pick_both : (t : List Mark) (s u : ℕ) → Sorted t → pick t (bit_and s u) ≡ common (pick t s) (pick t u)
unfolding only
pick_both = pick_op bit_and min common and_step (λ s u. omega arith) refl (λ s u. common_keep (s % 2) (u % 2))

-- ---- the order of identities, along a list
-- what comes before an identity comes before all that come after it
pub above_trans : (i j : Identity) (ms : List Mark) → stands i j ≡ Before → Above j ms → Above i ms
unfolding Above
above_trans i j [] h k = tt
above_trans i j (m ∷ ms) h k = (less_trans i j (id_of m) h k.0, above_trans i j ms h k.1)
