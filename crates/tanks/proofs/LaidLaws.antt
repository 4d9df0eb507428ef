-- A list written place by place, as the loop of `edit` writes the pool; and the laws of `runs_below`.
use Prim.Native.Nat.{ℕ, zero, suc, ◌+◌, ◌≤◌, ◌<◌}
use mathlib.Core.Path.{◌≡◌, refl, sym, ap, ◌∙◌}
use mathlib.Core.Logic.{◌≢◌}
use mathlib.Core.List.{List}
use native.Mathlib.Omega.{arith}
use native.Mathlib.Decide.{dec_lt}
use native.Mathlib.Numerals.{add-one}
use lib.ListN.{length, get_or, set, length-set}
use lib.Seq.{get_or-set_same, get_or-set_other, set_comm, set-get_or}
use Rattle.runs.proofs.SumLaws.{sum_same, sum_but_one}
use Rattle.tanks.specs.declared.Head.{Head}
use Rattle.tanks.specs.Pool.{no_head, runs_in, runs_below}

-- p with f 0, .., f (n - 1) written from the place `at` on
unfoldable pub laid {ℓ} : {A : Type ℓ} → List A → ℕ → (ℕ → A) → ℕ → List A
laid p at f zero = p
laid p at f (suc n) = set (laid p at f n) (at + n) (f n)

module _ {A : Type 0} where
  pub length_laid : (p : List A) (at : ℕ) (f : ℕ → A) (n : ℕ) → length (laid p at f n) ≡ length p
  unfolding laid
  length_laid p at f zero = refl
  length_laid p at f (suc n) = length-set (laid p at f n) (at + n) (f n) ∙ length_laid p at f n

  pub laid_out : (p : List A) (at : ℕ) (f : ℕ → A) (n k : ℕ) (d : A) → ((j : ℕ) → j < n → k ≢ at + j) → get_or (laid p at f n) k d ≡ get_or p k d
  unfolding laid
  laid_out p at f zero k d h = refl
  laid_out p at f (suc n) k d h =
      get_or-set_other (laid p at f n) (at + n) k (f n) d (h n (omega arith)) ∙ laid_out p at f n k d (λ j g. h j (omega arith))

  pub laid_in : (p : List A) (at : ℕ) (f : ℕ → A) (n k : ℕ) (d : A) → at + n ≤ length p → k < n → get_or (laid p at f n) (at + k) d ≡ f k
  unfolding laid
  laid_in p at f zero k d h g = absurd (omega arith)
  laid_in p at f (suc n) k d h g =
      elim (dec_lt k n) [
        | yes l ↦ get_or-set_other (laid p at f n) (at + n) (at + k) (f n) d (λ e. omega arith) ∙ laid_in p at f n k d (omega arith) l
        | no l ↦
            let e : k ≡ n = omega arith in
            rw e (get_or-set_same (laid p at f n) (at + n) (f n) d (omega (arith, length_laid p at f n)))
      ]

  pub laid_cong : (p : List A) (at : ℕ) (f g : ℕ → A) (n : ℕ) → ((k : ℕ) → k < n → f k ≡ g k) → laid p at f n ≡ laid p at g n
  unfolding laid
  laid_cong p at f g zero h = refl
  laid_cong p at f g (suc n) h = λ i. set (laid_cong p at f g n (λ k l. h k (omega arith)) i) (at + n) (h n (omega arith) i)

  pub laid_more : (p : List A) (at : ℕ) (f : ℕ → A) (n : ℕ) → set (laid p at f n) (at + n) (f n) ≡ laid p at f (n + 1)
  unfolding laid
  laid_more p at f n = rw add-one

  -- from the back
  pub laid_back : (p : List A) (at : ℕ) (f : ℕ → A) (n : ℕ) → set (laid p (suc at) (λ k. f (suc k)) n) at (f 0) ≡ laid p at f (suc n)
  unfolding laid
  laid_back p at f zero = let e : at + 0 ≡ at = omega arith in rw e
  laid_back p at f (suc n) =
      let e : at + suc n ≡ suc at + n = omega arith in
      set_comm (laid p (suc at) (λ k. f (suc k)) n) (suc at + n) at (f (suc n)) (f 0) (λ z. omega arith)
      ∙ rw e (ap (λ (l : List A). set l (suc at + n) (f (suc n))) (laid_back p at f n))

  -- what is written elsewhere may be written before
  set_laid : (p : List A) (at : ℕ) (f : ℕ → A) (n k : ℕ) (x : A) → ((j : ℕ) → j < n → k ≢ at + j) → set (laid p at f n) k x ≡ laid (set p k x) at f n
  unfolding laid
  set_laid p at f zero k x h = refl
  set_laid p at f (suc n) k x h =
      set_comm (laid p at f n) (at + n) k (f n) x (λ e. h n (omega arith) (sym e))
      ∙ ap (λ (l : List A). set l (at + n) (f n)) (set_laid p at f n k x (λ j g. h j (omega arith)))

  -- those behind first, then those in front of them
  pub laid_two : (p : List A) (at : ℕ) (f : ℕ → A) (m b : ℕ) → laid (laid p (at + m) (λ j. f (m + j)) b) at f m ≡ laid p at f (m + b)
  unfolding laid
  laid_two p at f zero b =
      let e : at + 0 ≡ at = omega arith in
      let z : 0 + b ≡ b = omega arith in
      rw (e, z) (laid_cong p at _ f b (λ k h. ap f (omega arith)))
  laid_two p at f (suc m) b =
      let e : at + suc m ≡ suc (at + m) = omega arith in
      let z : m + 0 ≡ m = omega arith in
      let n : suc m + b ≡ m + suc b = omega arith in
      let back : set (laid p (at + suc m) (λ j. f (suc m + j)) b) (at + m) (f m) ≡ laid p (at + m) (λ j. f (m + j)) (suc b) =
      rw e (ap (λ (l : List A). set l (at + m) (f m)) (laid_cong p (suc (at + m)) _ (λ j. f (m + suc j)) b (λ k h. ap f (omega arith))))
      ∙ rw z at (laid_back p (at + m) (λ j. f (m + j)) b) in
      set_laid (laid p (at + suc m) (λ j. f (suc m + j)) b) at f m (at + m) (f m) (λ j h g. omega arith)
      ∙ ap (λ (l : List A). laid l at f m) back
      ∙ laid_two p at f m (suc b)
      ∙ ap (laid p at f) (sym n)

  -- what stands there already need not be written
  pub laid_kept : (p : List A) (at : ℕ) (f : ℕ → A) (m b : ℕ) (d : A) → ((j : ℕ) → j < b → f (m + j) ≡ get_or p (at + (m + j)) d) → laid p at f (m + b) ≡ laid p at f m
  unfolding laid
  laid_kept p at f m zero d h = let e : m + 0 ≡ m = omega arith in ap (laid p at f) e
  laid_kept p at f m (suc b) d h =
      let e : m + suc b ≡ suc (m + b) = omega arith in
      let l = laid_kept p at f m b d (λ j g. h j (omega arith)) in
      let x : f (m + b) ≡ get_or (laid p at f m) (at + (m + b)) d = h b (omega arith) ∙ sym (laid_out p at f m (at + (m + b)) d (λ j g z. omega arith)) in
      rw e (rw (l, x) (set-get_or (laid p at f m) (at + (m + b)) d))

-- ---- where tanks begin
pub below_same : (hs : List Head) (t : ℕ) (h : Head) (u : ℕ) → u ≤ t → runs_below (set hs t h) u ≡ runs_below hs u
below_same hs t h u l =
    sum_same (runs_in (set hs t h)) (runs_in hs) u (λ v k. ap (λ (x : Head). x.runs) (get_or-set_other hs t v h no_head (λ e. omega arith)))

pub below_later : (hs : List Head) (t : ℕ) (h : Head) (u : ℕ) → t < length hs → t < u → runs_below (set hs t h) u + runs_in hs t ≡ runs_below hs u + h.runs
below_later hs t h u g l =
    let same = ap (λ (x : Head). x.runs) (get_or-set_same hs t h no_head g) in
    let other : (v : ℕ) → v ≢ t → runs_in (set hs t h) v ≡ runs_in hs v = λ v ne. ap (λ (x : Head). x.runs) (get_or-set_other hs t v h no_head ne) in
    let below = sum_but_one (runs_in (set hs t h)) (runs_in hs) t u l (λ v _ ne. omega (arith, other v ne)) in
    omega (arith, same, below, sum_but_one (runs_in hs) (runs_in (set hs t h)) t u l (λ v _ ne. omega (arith, other v ne)))
