-- What a call hands back, for every edit at once: the number by its tests, the very same tank where it is refused, and one result.
use Prim.Native.Nat.{ℕ, suc, ◌≤◌, ◌<◌}
use mathlib.Core.Path.{◌≡◌, sym, ◌∙◌}
use mathlib.Core.Bool.{true, false}
use native.Mathlib.Omega.{arith}
use lib.Dec.{eqb}
use Rattle.laws.proofs.Cases.{cond_by}
use Rattle.styles.specs.Values.{value_nan}
use borrow.Author.Tests.{lt-ltb, le-ltb, le-leb, lt-leb, ne_eqb}
use Rattle.tank.specs.declared.Tank.{Tank}
use Rattle.tank.specs.Rules.{View, Edit, annotating, inserting, deleting, removing, made_flag, retired_flag, mark_number, after, barred, empty, over, long, own_number, clashes, full, refusal, when_accepted, asked_range}
use Rattle.tank.specs.State.{view, Formed, Sound, Called}
use Rattle.tank.proofs.Unique.{same_tank}

-- ---- the number of the first test that holds
module _ (e : Edit) (v : View) where
  pub number_16 : barred e ≡ true → refusal e v ≡ 16
  unfolding refusal
  number_16 a = simp a

module _ (e : Edit) (v : View) (o : barred e ≡ false) where
  pub number_3 : empty e ≡ true → refusal e v ≡ 3
  unfolding refusal
  number_3 a = simp (o, a)

  module _ (a : empty e ≡ false) where
    pub number_4 : over e v ≡ true → refusal e v ≡ 4
    unfolding refusal
    number_4 b = simp (o, a, b)

    module _ (b : over e v ≡ false) where
      pub number_5 : long e v ≡ true → refusal e v ≡ 5
      unfolding refusal
      number_5 c = simp (o, a, b, c)

      module _ (c : long e v ≡ false) where
        -- 6, 14 or 18, by the mark alone
        pub number_own : 0 < own_number e → refusal e v ≡ own_number e
        unfolding refusal
        number_own d = simp (o, a, b, c) (rw (ne_eqb (own_number e) 0 (λ z. omega arith)))

        module _ (d : own_number e ≡ 0) where
          pub number_7 : clashes e v ≡ true → refusal e v ≡ 7
          unfolding refusal
          number_7 f = simp (o, a, b, c, d, f)

          module _ (f : clashes e v ≡ false) where
            pub number_8 : full e v ≡ true → refusal e v ≡ 8
            unfolding refusal
            number_8 g = simp (o, a, b, c, d, f, g)

            pub number_0 : full e v ≡ false → refusal e v ≡ 0
            unfolding refusal
            number_0 g = simp (o, a, b, c, d, f, g)

-- what holds of every number that a tank's own rules give, and of 0
pub own_by_lem : (P : ℕ → Type 0) → P 0 → P 6 → P 14 → P 18 → (e : Edit) → P (own_number e)
unfolding own_number mark_number
own_by_lem P zero six fourteen eighteen (annotating a b m) =
    cond_by P (value_nan m.value) six (cond_by P (made_flag m.flags) (cond_by P (retired_flag m.flags) eighteen zero) fourteen)
own_by_lem P zero six fourteen eighteen (inserting by pos len) = zero
own_by_lem P zero six fourteen eighteen (deleting by a b) = zero
own_by_lem P zero six fourteen eighteen (removing id last) = zero

pub number_by : (P : ℕ → Type 0) → P 0 → P 3 → P 4 → P 5 → P 6 → P 7 → P 8 → P 14 → P 16 → P 18 → (e : Edit) (v : View) → P (refusal e v)
unfolding refusal
number_by P zero three four five six seven eight fourteen sixteen eighteen e v =
    cond_by P (barred e) sixteen
    (cond_by P (empty e) three
    (cond_by P (over e v) four
    (cond_by P (long e v) five
    (cond_by P (eqb (own_number e) 0)
    (cond_by P (clashes e v) seven (cond_by P (full e v) eight zero))
    (own_by_lem P zero six fourteen eighteen e)))))

-- ---- and of a range that is asked about
module _ (a b later : ℕ) (v : View) where
  pub asked_empty : b ≤ a → asked_range a b later v ≡ 0
  asked_empty h = rw (le-leb b a h)

  pub asked_over : a < b → v.length < b → asked_range a b later v ≡ 4
  asked_over h k = rw (lt-leb b a h, lt-ltb v.length b k)

  pub asked_within : a < b → b ≤ v.length → asked_range a b later v ≡ later
  asked_within h k = rw (lt-leb b a h, le-ltb v.length b k)

-- what stands beside a refusal
pub when_refused : {A : Type 0} (n : ℕ) (x y : A) → 0 < n → when_accepted n x y ≡ y
when_refused n x y h = rw (ne_eqb n 0 (λ z. omega arith))

module _ {e : Edit} {t : Tank} where
  -- a refused call
  pub refused : Sound t → (n : ℕ) → refusal e (view t) ≡ suc n → Called e t (suc n) t
  refused s n r = record { number_is = sym r; formed = s.formed; is = sym (when_refused (refusal e (view t)) _ _ (omega arith)) }

  -- an edit that is made
  pub made : {u : Tank} → refusal e (view t) ≡ 0 → Formed u → view u ≡ after e (view t) → Called e t 0 u
  made r f q = record { number_is = sym r; formed = f; is = simp r q }

  -- any two results are equal
  pub one_number : {n m : ℕ} {u w : Tank} → Called e t n u → Called e t m w → n ≡ m
  one_number c d = c.number_is ∙ sym d.number_is

  pub one_tank : {n m : ℕ} {u w : Tank} → Called e t n u → Called e t m w → u ≡ w
  one_tank c d = same_tank c.formed d.formed (c.is ∙ sym d.is)
