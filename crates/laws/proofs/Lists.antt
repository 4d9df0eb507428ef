-- Lists that are filled up with one thing, or stored from the front; a function over a list.
use Prim.Native.Nat.{ℕ, zero, suc, ◌-◌, ◌≤◌, ◌<◌}
use mathlib.Core.Path.{◌≡◌, refl, sym, ap, ◌∙◌}
use mathlib.Core.List.{List, [], ◌∷◌, ◌++◌, map}
use native.Mathlib.Omega.{arith}
use lib.ListN.{length, get_or, set, take, drop, replicate, length-set, length-append, length-replicate, get_or-eq_default}
use lib.Seq.{drop-cons, set_at, take-suc, append_snoc, length-take-le}

-- ---- a list filled up
pub get_d_blank : {A : Type 0} (d : A) (n i : ℕ) → get_or (replicate n d) i d ≡ d
get_d_blank d zero i = refl
get_d_blank d (suc n) zero = refl
get_d_blank d (suc n) (suc i) = get_d_blank d n i

pub get_d_padding : {A : Type 0} (d : A) (n i : ℕ) (xs : List A) → get_or (xs ++ replicate n d) i d ≡ get_or xs i d
get_d_padding d n i [] = get_d_blank d n i
get_d_padding d n zero (x ∷ xs) = refl
get_d_padding d n (suc i) (x ∷ xs) = get_d_padding d n i xs

pub get_d_past : {A : Type 0} (d : A) (n i : ℕ) (xs : List A) → length xs ≤ i → get_or (xs ++ replicate n d) i d ≡ d
get_d_past d n i xs h = get_d_padding d n i xs ∙ get_or-eq_default xs d h

pub length_filled : {A : Type 0} (d : A) (n : ℕ) (xs : List A) → length xs ≤ n → length (xs ++ replicate (n - length xs) d) ≡ n
length_filled d n xs h = omega (arith, length-append xs (replicate (n - length xs) d), length-replicate (n - length xs) d)

pub drop_filling : {A : Type 0} (d : A) (n k : ℕ) → drop k (replicate n d) ≡ replicate (n - k) d
drop_filling d n zero = let e : n ≡ n - 0 = omega arith in ap (λ (j : ℕ). replicate j d) e
drop_filling d zero (suc k) = let e : 0 ≡ 0 - suc k = omega arith in ap (λ (j : ℕ). replicate j d) e
drop_filling d (suc n) (suc k) = let e : n - k ≡ suc n - suc k = omega arith in drop_filling d n k ∙ ap (λ (j : ℕ). replicate j d) e

-- one more element stored over the first that fills up
pub filled_step : {A : Type 0} (d e : A) (n : ℕ) (xs : List A) (i : ℕ) → i < length xs → i < n
    → set (take i xs ++ replicate (n - i) d) i (get_or xs i e) ≡ take (suc i) xs ++ replicate (n - suc i) d
filled_step d e n xs i h l =
    let f : n - i ≡ suc (n - suc i) = omega arith in
    rw (f, take-suc xs i e h)
    (set_at (take i xs) d (replicate (n - suc i) d) (get_or xs i e) i (length-take-le i xs (omega arith)) ∙ sym (append_snoc (take i xs) (get_or xs i e) (replicate (n - suc i) d)))

-- ---- a function over a list
pub map_set : {A B : Type 0} (f : A → B) (l : List A) (i : ℕ) (a : A) → map f (set l i a) ≡ set (map f l) i (f a)
map_set f [] i a = refl
map_set f (x ∷ xs) zero a = refl
map_set {B = B} f (x ∷ xs) (suc i) a = ap (λ (r : List B). f x ∷ r) (map_set f xs i a)

-- ---- a list stored from the front
-- ys after n stores
abbrev pub stored : {A : Type 0} → (ℕ → A) → List A → ℕ → List A
stored f ys zero = ys
stored f ys (suc n) = set (stored f ys n) n (f n)

pub length_stored : {A : Type 0} (f : ℕ → A) (ys : List A) (n : ℕ) → length (stored f ys n) ≡ length ys
length_stored f ys zero = refl
length_stored f ys (suc n) = length-set (stored f ys n) n (f n) ∙ length_stored f ys n

pub stored_is : {A : Type 0} (f : ℕ → A) (xs ys : List A) (d : A) (n : ℕ) → n ≤ length xs → n ≤ length ys → ((k : ℕ) → k < n → f k ≡ get_or xs k d)
    → stored f ys n ≡ take n xs ++ drop n ys
stored_is f xs ys d zero h g e = refl
stored_is {A} f xs ys d (suc n) h g e =
    rw (e n (omega arith))
    (ap (λ (zs : List A). set zs n (get_or xs n d))
    (stored_is f xs ys d n (omega arith) (omega arith) (λ k l. e k (omega arith)) ∙ ap (λ (zs : List A). take n xs ++ zs) (drop-cons ys n d (omega arith)))
    ∙ set_at (take n xs) _ (drop (suc n) ys) (get_or xs n d) n (length-take-le n xs (omega arith))
    ∙ sym (ap (λ (zs : List A). zs ++ drop (suc n) ys) (take-suc xs n d (omega arith)) ∙ append_snoc (take n xs) (get_or xs n d) (drop (suc n) ys)))
