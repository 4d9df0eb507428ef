-- The sorted table: where an identity stands, and a mark put in at its place.
use Rattle.std.proofs.Common.{◌≡◌, ℕ, zero, suc, ◌+◌, ◌<◌, ◌≤◌, true, false, cond, ◌&&◌, ◌||◌, ltb, leb, List, [], ◌∷◌, ◌++◌, length, get_or, take, drop, set, sym, refl, ap, ◌∙◌, ap₂, true≢false, suc-add, add-one, arith, take-append-drop, drop_of_length-le, length-take, drop-cons, get_or-take, drop-drop, take_at, drop-set-lt, drop_at, le-ltb, lt-ltb, le-leb, Result, Ok, Err, Bool}
use mathlib.Core.Bool.{and-false}
use lib.Dec.{leb-suc-suc}
use borrow.Author.Tests.{lt-leb}
use Rattle.styles.specs.declared.Identity.{Identity}
use Rattle.styles.specs.declared.Mark.{Mark}
use Rattle.styles.specs.declared.Stand.{Stand}
use Rattle.styles.specs.declared.Stand.TheVariants.{Before, Same, After}
use Rattle.styles.specs.Order.{stands, id_of, is_before, less, same_id}
use Rattle.styles.specs.Marks.{Above, Sorted, member, insert_at, place_of, table_with}
use Rattle.styles.specs.Answers.{placed}
use Rattle.styles.proofs.OrderLaws.{less_flip, more_flip, same_flip}
use Rattle.styles.proofs.PickLaws.{not_member, above_trans}

-- ---- where an identity stands
pub place_step : (j : Identity) (l : List Mark) (i : ℕ) (d : Mark) → i < length l
    → place_of j (drop i l) ≡ cond (less (id_of (get_or l i d)) j) (suc (place_of j (drop (suc i) l))) 0
unfolding place_of
place_step j l i d h = ap (place_of j) (drop-cons l i d h)

-- a mark that comes before it is passed; at another the walk ends
pub place_more : (j : Identity) (t : List Mark) (n i : ℕ) (d : Mark) → n ≤ length t → i < n → less (id_of (get_or t i d)) j ≡ true
    → place_of j (drop (i + 1) (take n t)) + 1 ≡ place_of j (drop i (take n t))
place_more j t n i d h k e =
    let f : less (id_of (get_or (take n t) i d)) j ≡ true = rw (get_or-take n t i d k) e in
    rw (place_step j (take n t) i d (omega (arith, length-take n t)), f, add-one i) (omega arith)

pub place_here : (j : Identity) (t : List Mark) (n i : ℕ) (d : Mark) → n ≤ length t → i < n → less (id_of (get_or t i d)) j ≡ false
    → place_of j (drop i (take n t)) ≡ 0
place_here j t n i d h k e =
    let f : less (id_of (get_or (take n t) i d)) j ≡ false = rw (get_or-take n t i d k) e in
    rw (place_step j (take n t) i d (omega (arith, length-take n t)), f)

pub place_end : (j : Identity) (t : List Mark) (n : ℕ) → place_of j (drop n (take n t)) ≡ 0
unfolding place_of
place_end j t n = rw (drop_of_length-le (take n t) {i = n} (omega (arith, length-take n t)))

place_cases : (s : Stand) (n : ℕ) (P : ℕ → Type 0) → (s ≡ Before → P (suc n)) → (s ≡ Same → P 0) → (s ≡ After → P 0) → P (cond (is_before s) (suc n) 0)
place_cases Before n P a b c = a refl
place_cases Same n P a b c = b refl
place_cases After n P a b c = c refl

pub place_le : (j : Identity) (t : List Mark) → place_of j t ≤ length t
unfolding place_of
place_le j [] = omega arith
place_le j (m ∷ ms) = let ih = place_le j ms in
    place_cases (stands (id_of m) j) (place_of j ms) (λ x. x ≤ suc (length ms)) (λ e. omega arith) (λ e. omega arith) (λ e. omega arith)

-- the table carries an identity exactly where it has it at that place
pub member_at : (j : Identity) (t : List Mark) (d : Mark) → Sorted t
    → member j t ≡ (ltb (place_of j t) (length t) && same_id j (id_of (get_or t (place_of j t) d)))
unfolding member place_of Sorted
member_at j [] d h = refl
member_at j (m ∷ ms) d h =
    let ih = member_at j ms d h.1 in
    place_cases (stands (id_of m) j) (place_of j ms)
    (λ x. (same_id j (id_of m) || member j ms) ≡ (ltb x (suc (length ms)) && same_id j (id_of (get_or (m ∷ ms) x d))))
    (λ e. rw (less_flip (id_of m) j e, leb-suc-suc (suc (place_of j ms)) (length ms)) ih)
    (λ e. rw (same_flip (id_of m) j e, lt-ltb 0 (suc (length ms)) (omega arith)))
    (λ e.
    let k = more_flip (id_of m) j e in
    rw (k, lt-ltb 0 (suc (length ms)) (omega arith)) (not_member j ms (above_trans j (id_of m) ms k h.0)))

module _ (j : Identity) (t : List Mark) (n i : ℕ) (d : Mark) (long : n ≤ length t) (sorted : Sorted (take n t)) (found : i ≡ place_of j (take n t)) where
  full : length (take n t) ≡ n
  full = omega (arith, length-take n t)

  pub carried_here : i < n → member j (take n t) ≡ same_id j (id_of (get_or t i d))
  carried_here h =
      member_at j (take n t) d sorted
      ∙ (rw (← found, full, lt-ltb i n h, get_or-take n t i d h))

  pub carried_not : n ≤ i → member j (take n t) ≡ false
  carried_not h = member_at j (take n t) d sorted ∙ (rw (← found, full, le-ltb i n h))

-- what is told of that place says whether the identity is there
placed_by : (b : Bool) (p i : ℕ) → ◌≡◌ {A = Result ℕ ℕ} (cond b (Ok p) (Err p)) (Ok i) → (i ≡ p) × (b ≡ true)
placed_by true p i e = (cc, refl)
placed_by false p i e = absurd cc

not_placed_by : (b : Bool) (p i : ℕ) → ◌≡◌ {A = Result ℕ ℕ} (cond b (Ok p) (Err p)) (Err i) → (i ≡ p) × (b ≡ false)
not_placed_by true p i e = absurd cc
not_placed_by false p i e = (cc, refl)

pub placed_there : (j : Identity) (t : List Mark) (i : ℕ) → Ok i ≡ placed j t → (i ≡ place_of j t) × (member j t ≡ true)
placed_there j t i e = placed_by (member j t) (place_of j t) i (sym e)

pub placed_not : (j : Identity) (t : List Mark) (i : ℕ) → Err i ≡ placed j t → (i ≡ place_of j t) × (member j t ≡ false)
placed_not j t i e = not_placed_by (member j t) (place_of j t) i (sym e)

-- ---- a mark put in
above_put_all : (j : Identity) (i : ℕ) (m : Mark) (t : List Mark) → stands j (id_of m) ≡ Before → Above j t → Above j (insert_at i m t)
unfolding Above insert_at
above_put_all j zero m t h k = (h, k)
above_put_all j (suc i) m [] h k = tt
above_put_all j (suc i) m (x ∷ xs) h k = (k.0, above_put_all j i m xs h k.1)

-- at its place, a mark whose identity the table has not leaves it sorted
pub sorted_put : (m : Mark) (t : List Mark) → Sorted t → member (id_of m) t ≡ false → Sorted (insert_at (place_of (id_of m) t) m t)
unfolding Sorted insert_at place_of member
sorted_put m [] h e = (tt, tt)
sorted_put m (x ∷ xs) h e =
    place_cases (stands (id_of x) (id_of m)) (place_of (id_of m) xs) (λ k. Sorted (insert_at k m (x ∷ xs)))
    (λ b. (above_put_all (id_of x) (place_of (id_of m) xs) m xs b h.0, sorted_put m xs h.1 (rw (less_flip (id_of x) (id_of m) b) at e)))
    (λ b. absurd (true≢false (rw (same_flip (id_of x) (id_of m) b) at e)))
    (λ b. let k = more_flip (id_of x) (id_of m) b in ((k, above_trans (id_of m) (id_of x) xs k h.0), h))

-- a turn of the loop: the mark at hand goes in at k, and the one that stood there is at hand
pub put_turn : (t : List Mark) (k : ℕ) (m d : Mark) → k < length t → insert_at (k + 1) (get_or t k d) (set t k m) ≡ insert_at k m t
unfolding insert_at
put_turn [] k m d h = absurd (omega arith)
put_turn (x ∷ xs) zero m d h = refl
put_turn (x ∷ xs) (suc k) m d h = rw (suc-add k 1) (ap (◌∷◌ x) (put_turn xs k m d (omega arith)))

put_take : (t : List Mark) (n i : ℕ) (m : Mark) → i ≤ n → n ≤ length t → take (suc n) (insert_at i m t) ≡ insert_at i m (take n t)
unfolding insert_at
put_take t n zero m h k = refl
put_take t zero (suc i) m h k = absurd (omega arith)
put_take [] (suc n) (suc i) m h k = absurd (omega arith)
put_take (x ∷ xs) (suc n) (suc i) m h k = ap (◌∷◌ x) (put_take xs n i m (omega arith) (omega arith))

put_drop : (t : List Mark) (n i : ℕ) (m : Mark) → i ≤ n → drop (suc n) (insert_at i m t) ≡ drop n t
unfolding insert_at
put_drop t n zero m h = refl
put_drop t zero (suc i) m h = absurd (omega arith)
put_drop [] (suc n) (suc i) m h = refl
put_drop (x ∷ xs) (suc n) (suc i) m h = put_drop xs n i m (omega arith)

set_put : (t : List Mark) (n : ℕ) (m : Mark) → n < length t → take (suc n) (set t n m) ≡ take (suc n) (insert_at n m t)
unfolding insert_at
set_put [] n m h = absurd (omega arith)
set_put (x ∷ xs) zero m h = refl
set_put (x ∷ xs) (suc n) m h = ap (◌∷◌ x) (set_put xs n m (omega arith))

-- the end of the loop
module _ (table t : List Mark) (n i : ℕ) (m carried : Mark) (low : i ≤ n) (room : n < length table) (room' : n < length t) (same : insert_at n carried t ≡ insert_at i m table) where
  put_front : take (n + 1) (set t n carried) ≡ insert_at i m (take n table)
  put_front = rw (add-one n) (set_put t n carried room' ∙ ap (take (suc n)) same ∙ put_take table n i m low (omega arith))

  put_rest : drop (n + 1) (set t n carried) ≡ drop (n + 1) table
  put_rest =
      let e : drop n t ≡ drop n table = sym (put_drop t n n carried (omega arith)) ∙ ap (drop (suc n)) same ∙ put_drop table n i m low in
      drop-set-lt (n + 1) t n carried (omega arith) ∙ sym (drop-drop 1 n t) ∙ ap (drop 1) e ∙ drop-drop 1 n table

  pub put_all : set t n carried ≡ insert_at i m (take n table) ++ drop (n + 1) table
  put_all = sym (take-append-drop (n + 1) (set t n carried)) ∙ ap₂ ◌++◌ put_front put_rest

-- the table with one mark more, by cases
pub put_there : (n i : ℕ) (m : Mark) (t : List Mark) → i ≤ n → n < 64 → table_with n i m t ≡ insert_at i m (take n t) ++ drop (n + 1) t
unfolding table_with
put_there n i m t h l = rw (le-leb i n h, lt-ltb n 64 l)

pub put_nowhere : (n i : ℕ) (m : Mark) (t : List Mark) → n < i → table_with n i m t ≡ t
unfolding table_with
put_nowhere n i m t h = rw (lt-leb i n h)

pub put_full : (n i : ℕ) (m : Mark) (t : List Mark) → 64 ≤ n → table_with n i m t ≡ t
unfolding table_with
put_full n i m t h = rw (le-ltb n 64 h, and-false (leb i n))

pub length_put : (i : ℕ) (m : Mark) (ms : List Mark) → i ≤ length ms → length (insert_at i m ms) ≡ suc (length ms)
unfolding insert_at
length_put zero m ms h = refl
length_put (suc i) m [] h = absurd (omega arith)
length_put (suc i) m (x ∷ xs) h = ap suc (length_put i m xs (omega arith))

-- its first n + 1 places, and those behind
module _ (n i : ℕ) (m : Mark) (t : List Mark) (low : i ≤ n) (room : n < 64) (long : n ≤ length t) where
  put_length : length (insert_at i m (take n t)) ≡ n + 1
  put_length = let e = length-take n t in omega (arith, length_put i m (take n t) (omega arith))

  pub with_front : take (n + 1) (table_with n i m t) ≡ insert_at i m (take n t)
  with_front = ap (take (n + 1)) (put_there n i m t low room) ∙ take_at (insert_at i m (take n t)) (drop (n + 1) t) (n + 1) put_length

  pub with_rest : drop (n + 1) (table_with n i m t) ≡ drop (n + 1) t
  with_rest = ap (drop (n + 1)) (put_there n i m t low room) ∙ drop_at (insert_at i m (take n t)) (drop (n + 1) t) (n + 1) put_length
