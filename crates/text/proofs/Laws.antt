-- The parsers are exact: a text is accepted where it is the text of a number below 2^64, and the answer is that number. So what is accepted is what is printed (`same_text`).
use Rattle.std.specs.Prelude.{Option, Some, None}
use mathlib.Core.Path.{◌≡◌, refl, sym, ap, ◌∙◌, subst}
use mathlib.Core.Bool.{Bool, true, false, cond, ◌&&◌, ◌||◌, and-eq-true_iff, false≢true}
use mathlib.Core.List.{List, [], ◌∷◌, ◌++◌}
use Prim.Native.Nat.{ℕ, zero, suc, ◌+◌, ◌-◌, ◌*◌, ◌/◌, ◌%◌, ◌^◌, ◌≤◌, ◌<◌}
use native.Mathlib.Nat.{div-div-eq-div-mul, div-one, div-eq_of_lt, div-le_self, div-add-mod', mod-eq_of_lt, mod-lt, pow-zero, pow-suc, pow-succ', pow-le-pow_right, one-le-pow, le-div_iff_mul-le, div-lt_iff_lt-mul, one-mul}
use native.Mathlib.Decide.{dec_lt}
use native.Mathlib.Numerals.{sub-one}
use native.Mathlib.Omega.{arith}
use lib.Arith.{digits_div, digits_mod}
use lib.Dec.{ltb, eqb}
use lib.ListN.{length, get_or, length-append}
use borrow.Author.Tests.{lt-ltb, le-ltb, eq-eqb, ne_eqb, ltb-true, eqb-true, eqb-false}
use Rattle.io.specs.Digits.{hex_digit_ascii, last_digits, IsDigitCount}
use Rattle.text.specs.Number.{digit_of, is_digit, fitting, number_in, decimal_of, hex_of, Text, places_from, decimal_text, hex_text}
use Rattle.text.proofs.Steps.{step_of, followed_by, number_from, digit_low, digit_high, glyph_low, glyph_high, good, push, number_from_lem}

all_of : (b n : ℕ) → n / b ^ 0 ≡ n
all_of b n = ap (λ (m : ℕ). n / m) (pow-zero b) ∙ div-one n

pub digits_front : (b k n : ℕ) → last_digits b (suc k) n ≡ hex_digit_ascii (n / b ^ k % b) ∷ last_digits b k n
digits_front b zero n = ap (λ (q : ℕ). hex_digit_ascii (q % b) ∷ []) (sym (all_of b n))
digits_front b (suc k) n =
    ap (λ (l : List ℕ). l ++ (hex_digit_ascii (n % b) ∷ [])) (digits_front b k (n / b))
    ∙ ap (λ (q : ℕ). hex_digit_ascii (q % b) ∷ last_digits b (suc k) n) (div-div-eq-div-mul n b (b ^ k) ∙ ap (λ (m : ℕ). n / m) (sym (pow-succ' b k)))

pub digit_glyph : (d : ℕ) → d < 16 → digit_of (hex_digit_ascii d) ≡ d
digit_glyph d h =
    elim (dec_lt d 10) [
      | yes k ↦ rw (glyph_low d k) (rw (digit_low (48 + d) (omega arith)) (omega arith))
      | no k ↦ rw (glyph_high d (omega arith)) (rw (digit_high (87 + d) (omega arith)) (omega arith))
    ]

-- what is known where all three tests pass
pub record Opened (b v c n : ℕ) (cs : List ℕ) : Type 0 where
  pub small : digit_of c < b
  pub is_glyph : hex_digit_ascii (digit_of c) ≡ c
  pub fits : v * b + digit_of c < 2 ^ 64
  pub rest : number_from b (v * b + digit_of c) cs ≡ Some n

-- what is good behind a test passed it
pub passed : (t : Bool) (n : ℕ) (p : Option ℕ) → cond t p None ≡ Some n → (t ≡ true) × (p ≡ Some n)
passed true n p e = (refl, e)
passed false n p e = let z : ◌≡◌ {A = ℕ} 0 1 = cc in absurd (omega arith)

-- what is good behind a number follows a number
followed : (p : Option ℕ) (more : ℕ → Option ℕ) (n : ℕ) → followed_by p more ≡ Some n → (x : ℕ) × (p ≡ Some x) × (more x ≡ Some n)
followed None more n e = let z : ◌≡◌ {A = ℕ} 0 1 = cc in absurd (omega arith)
followed (Some x) more n e = (x, refl, e)

opens : (b v c n : ℕ) (cs : List ℕ) → number_from b v (c ∷ cs) ≡ Some n → Opened b v c n cs
unfolding number_from
opens b v c n cs e =
    let f = followed (step_of b v c) (λ (w : ℕ). number_from b w cs) n e in
    let o = passed (is_digit b c) f.0 (fitting (v * b + digit_of c)) f.1 in
    let d = (and-eq-true_iff (ltb (digit_of c) b) (eqb (hex_digit_ascii (digit_of c)) c)).0 o.0 in
    let q = passed (ltb (v * b + digit_of c) (2 ^ 64)) f.0 (Some (v * b + digit_of c)) o.1 in
    record { small = ltb-true _ _ d.0; is_glyph = eqb-true _ _ d.1; fits = ltb-true _ _ q.0; rest = ap (λ (p : Option ℕ). followed_by p (λ (w : ℕ). number_from b w cs)) q.1 ∙ f.2 }

shuts : (b v c n : ℕ) (cs : List ℕ) → Opened b v c n cs → number_from b v (c ∷ cs) ≡ Some n
shuts b v c n cs o = push b v c cs (Some (v * b + digit_of c)) (sym (good b v c o.small o.is_glyph o.fits)) ∙ o.rest

-- the answer's last digits are the text, and what is in front of them is v
pub record Read (b v n : ℕ) (cs : List ℕ) : Type 0 where
  pub below : n < 2 ^ 64
  pub front : n / b ^ length cs ≡ v
  pub back : cs ≡ last_digits b (length cs) n

module _ (b : ℕ) (one : 1 ≤ b) (few : b ≤ 16) where
  next_front : (n k : ℕ) → n / b ^ suc k ≡ n / b ^ k / b
  next_front n k = ap (λ (m : ℕ). n / m) (pow-suc b k) ∙ sym (div-div-eq-div-mul n (b ^ k) b)

  pub reads : (cs : List ℕ) (v n : ℕ) → v < 2 ^ 64 → number_from b v cs ≡ Some n → Read b v n cs
  unfolding number_from
  reads [] v n h e = let q : v ≡ n = cc in record { below = omega arith; front = all_of b n ∙ sym q; back = refl }
  reads (c ∷ cs) v n h e =
      let o = opens b v c n cs e in
      let r = reads cs (v * b + digit_of c) n o.fits o.rest in
      record {
        below = r.below;
        front = next_front n (length cs) ∙ ap (λ (q : ℕ). q / b) r.front ∙ digits_div v o.small;
        back = ap (λ (l : List ℕ). c ∷ l) r.back
            ∙ ap (λ (g : ℕ). g ∷ last_digits b (length cs) n) (sym o.is_glyph ∙ ap (λ (d : ℕ). hex_digit_ascii d) (sym (digits_mod v o.small) ∙ ap (λ (q : ℕ). q % b) (sym r.front)))
            ∙ sym (digits_front b (length cs) n);
      }

  pub accepts : (cs : List ℕ) (v n : ℕ) → Read b v n cs → number_from b v cs ≡ Some n
  unfolding number_from
  accepts [] v n r = ap Some (sym r.front ∙ all_of b n)
  accepts (c ∷ cs) v n r =
      let q : ℕ = n / b ^ length cs in
      let whole : c ∷ cs ≡ hex_digit_ascii (q % b) ∷ last_digits b (length cs) n = r.back ∙ digits_front b (length cs) n in
      let head : c ≡ hex_digit_ascii (q % b) = cc in
      let tail : cs ≡ last_digits b (length cs) n = cc in
      let m : q % b < b = mod-lt q one in
      let d : digit_of c ≡ q % b = ap (λ (x : ℕ). digit_of x) head ∙ digit_glyph (q % b) (omega arith) in
      let v-is : v ≡ q / b = sym r.front ∙ next_front n (length cs) in
      let sum : v * b + digit_of c ≡ q = ap (λ (x : ℕ). x * b + digit_of c) v-is ∙ ap (λ (x : ℕ). q / b * b + x) d ∙ div-add-mod' q b in
      let le : q ≤ n = div-le_self n (b ^ length cs) in
      shuts b v c n cs (record {
        small = omega arith;
        is_glyph = ap (λ (x : ℕ). hex_digit_ascii x) d ∙ sym head;
        fits = omega (arith, r.below);
        rest = accepts cs (v * b + digit_of c) n (record { below = r.below; front = sym sum; back = tail });
      })

  -- the text of a number below 2^64 spells it
  text_number : (least n : ℕ) (t : List ℕ) → Text b least t n → n < 2 ^ 64 → number_in b t ≡ Some n
  text_number least n t x h = sym (number_from_lem b one t) ∙ accepts t 0 n (record { below = h; front = div-eq_of_lt x.fewest.1; back = x.spelled })

-- n < b ^ k is that nothing is in front of its last k digits
none_front : (b n k : ℕ) → 1 ≤ b → n / b ^ k ≡ 0 → n < b ^ k
none_front b n k one e = omega (arith, (div-lt_iff_lt-mul {k = b ^ k} {x = n} {y = 1} (one-le-pow k b one)).0 (omega arith), one-mul (b ^ k))

-- the first digit of a number of k + 1 digits is not 0
first_pos : (b n k : ℕ) → 1 ≤ b → b ^ k ≤ n → 1 ≤ n / b ^ k
first_pos b n k one h = (le-div_iff_mul-le {k = b ^ k} {x = 1} {y = n} (one-le-pow k b one)).1 (omega (arith, one-mul (b ^ k)))

pos_first : (b n k : ℕ) → 1 ≤ b → 1 ≤ n / b ^ k → b ^ k ≤ n
pos_first b n k one h = omega (arith, one-mul (b ^ k), (le-div_iff_mul-le {k = b ^ k} {x = 1} {y = n} (one-le-pow k b one)).0 h)

first_small : (b n k : ℕ) → 1 ≤ b → n < b ^ suc k → n / b ^ k < b
first_small b n k one h = (div-lt_iff_lt-mul {k = b ^ k} {x = n} {y = b} (one-le-pow k b one)).1 (omega (arith, pow-succ' b k))

-- the fewest digits are no more than hold the number
few_digits : (b least n m k : ℕ) → 1 ≤ b → least ≤ m → n < b ^ m → IsDigitCount b least n k → k ≤ m
few_digits b least n m k one low h x =
    elim (dec_lt m k) [
      | yes l ↦ absurd (omega (arith, pow-le-pow_right {n = b} one {i = m} {j = k - 1} (omega arith), x.2 (omega arith)))
      | no l ↦ omega arith
    ]

-- ---- decimals
-- what `decimal_of` asks of its text besides the digits
no_lead : (t u w : Bool) (n : ℕ) (p : Option ℕ) → cond (t || (u && w)) None p ≡ Some n → (t ≡ false) × (u ≡ true → w ≡ false) × (p ≡ Some n)
no_lead true u w n p e = let z : ◌≡◌ {A = ℕ} 0 1 = cc in absurd (omega arith)
no_lead false true true n p e = let z : ◌≡◌ {A = ℕ} 0 1 = cc in absurd (omega arith)
no_lead false true false n p e = (refl, (λ _. refl), e)
no_lead false false w n p e = (refl, (λ z. absurd (false≢true z)), e)

-- what is accepted is the text of its answer
pub decimal_reads : (t : List ℕ) (n : ℕ) → decimal_of t ≡ Some n → Text 10 1 t n × (n < 2 ^ 64)
unfolding decimal_of
decimal_reads [] n e = let z : ◌≡◌ {A = ℕ} 0 1 = cc in absurd (omega arith)
decimal_reads (c ∷ cs) n e =
    let o = no_lead (ltb (length (c ∷ cs)) 1) (ltb 1 (length (c ∷ cs))) (eqb c 48) n (number_in 10 (c ∷ cs)) e in
    let r = reads 10 (omega arith) (omega arith) (c ∷ cs) 0 n (omega arith) (number_from_lem 10 (omega arith) (c ∷ cs) ∙ o.2) in
    let whole : c ∷ cs ≡ hex_digit_ascii (n / 10 ^ length cs % 10) ∷ last_digits 10 (length cs) n = r.back ∙ digits_front 10 (length cs) n in
    let head : c ≡ hex_digit_ascii (n / 10 ^ length cs % 10) = cc in (
      record {
        fewest = (
          omega arith,
          none_front 10 n (suc (length cs)) (omega arith) r.front,
          λ h.
              elim (dec_lt 0 (n / 10 ^ length cs)) [
                | yes k ↦ subst (λ (m : ℕ). 10 ^ m ≤ n) (sym (sub-one (suc (length cs)))) (pos_first 10 n (length cs) (omega arith) k)
                | no k ↦
                    let q : n / 10 ^ length cs ≡ 0 = omega arith in
                    let z : c ≡ 48 = head ∙ ap (λ (x : ℕ). hex_digit_ascii (x % 10)) q in
                    absurd (eqb-false c 48 (o.1 (lt-ltb 1 (suc (length cs)) h)) z)
              ],
        );
        spelled = r.back;
      },
      r.below,
    )

-- the text of a number below 2^64 is accepted, and the answer is the number
pub decimal_accepts : (t : List ℕ) (n : ℕ) → Text 10 1 t n → n < 2 ^ 64 → decimal_of t ≡ Some n
unfolding decimal_of
decimal_accepts [] n x h = absurd (omega (arith, x.fewest.0))
decimal_accepts (c ∷ cs) n x h =
    let p = text_number 10 (omega arith) (omega arith) 1 n (c ∷ cs) x h in
    elim (dec_lt 1 (suc (length cs))) [
      | yes k ↦
          let q : ℕ = n / 10 ^ length cs in
          let whole : c ∷ cs ≡ hex_digit_ascii (q % 10) ∷ last_digits 10 (length cs) n = x.spelled ∙ digits_front 10 (length cs) n in
          let head : c ≡ hex_digit_ascii (q % 10) = cc in
          let low : 1 ≤ q = first_pos 10 n (length cs) (omega arith) (subst (λ (m : ℕ). 10 ^ m ≤ n) (sub-one (suc (length cs))) (x.fewest.2 k)) in
          let high : q < 10 = first_small 10 n (length cs) (omega arith) x.fewest.1 in
          let is_c : c ≡ 48 + q = head ∙ ap (λ (d : ℕ). hex_digit_ascii d) (mod-eq_of_lt high) ∙ glyph_low q high in
          simp (le-ltb (suc (length cs)) 1 (omega arith), lt-ltb 1 (suc (length cs)) k, ne_eqb c 48 (λ z. omega arith)) p
      | no k ↦ simp (le-ltb (suc (length cs)) 1 (omega arith), le-ltb 1 (suc (length cs)) (omega arith)) p
    ]

-- ---- sixteen hexadecimal digits
pub hex_reads : (t : List ℕ) (n : ℕ) → hex_of t ≡ Some n → Text 16 16 t n × (n < 2 ^ 64)
unfolding hex_of
hex_reads t n e =
    let o = passed (eqb (length t) 16) n (number_in 16 t) e in
    let l : length t ≡ 16 = eqb-true _ _ o.0 in
    let r = reads 16 (omega arith) (omega arith) t 0 n (omega arith) (number_from_lem 16 (omega arith) t ∙ o.1) in
    (record { fewest = (omega arith, none_front 16 n (length t) (omega arith) r.front, λ h. absurd (omega arith)); spelled = r.back }, r.below)

pub hex_accepts : (t : List ℕ) (n : ℕ) → Text 16 16 t n → n < 2 ^ 64 → hex_of t ≡ Some n
unfolding hex_of
hex_accepts t n x h =
    let l : length t ≡ 16 = omega (arith, x.fewest.0, few_digits 16 16 n 16 (length t) (omega arith) (omega arith) (omega arith) x.fewest) in
    simp (eq-eqb (length t) 16 l) (text_number 16 (omega arith) (omega arith) 16 n t x h)

-- ---- a number has one text: what is accepted is what is printed
digits_once : (b least n k l : ℕ) → 1 ≤ b → IsDigitCount b least n k → IsDigitCount b least n l → last_digits b k n ≡ last_digits b l n
digits_once b least n k l one x y =
    let up = few_digits b least n l k one y.0 y.1 x in
    let down = few_digits b least n k l one x.0 x.1 y in
    let e : k ≡ l = omega arith in
    ap (λ (m : ℕ). last_digits b m n) e

pub same_text : (b least n : ℕ) (s t : List ℕ) → 1 ≤ b → Text b least s n → Text b least t n → s ≡ t
same_text b least n s t one x y = x.spelled ∙ digits_once b least n (length s) (length t) one x.fewest y.fewest ∙ sym y.spelled

pub length_digits : (b k n : ℕ) → length (last_digits b k n) ≡ k
length_digits b zero n = refl
length_digits b (suc k) n = simp length-append (omega (arith, length_digits b k (n / b)))

digits_text_lem : (b least n k : ℕ) → IsDigitCount b least n k → Text b least (last_digits b k n) n
digits_text_lem b least n k x =
    let l : k ≡ length (last_digits b k n) = sym (length_digits b k n) in
    record { fewest = subst (λ (m : ℕ). IsDigitCount b least n m) l x; spelled = ap (λ (m : ℕ). last_digits b m n) l }

-- `places_from` is the fewest
pub fewest_from : (f n : ℕ) → n < 10 ^ suc f → IsDigitCount 10 1 n (places_from f n)
unfolding places_from
fewest_from zero n h = (omega arith, h, λ l. absurd (omega arith))
fewest_from (suc f) n h =
    elim (dec_lt n 10) [
      | yes k ↦ rw (lt-ltb n 10 k) (omega arith, k, λ l. absurd (omega arith))
      | no k ↦
          let p : ℕ = places_from f (n / 10) in
          let r : IsDigitCount 10 1 (n / 10) p = fewest_from f (n / 10) ((div-lt_iff_lt-mul {k = 10} {x = n} {y = 10 ^ suc f} (omega arith)).1 (omega (arith, pow-suc 10 (suc f)))) in
          rw (le-ltb n 10 (omega arith)) (
            omega arith,
            omega (arith, pow-suc 10 p, (div-lt_iff_lt-mul {k = 10} {x = n} {y = 10 ^ p} (omega arith)).0 r.1),
            λ l.
                subst (λ (m : ℕ). 10 ^ m ≤ n) (sym (sub-one (suc p))) (
                elim (dec_lt 1 p) [
                  | yes i ↦
                      let e : p ≡ suc (p - 1) = omega arith in
                      let low : 10 ^ (p - 1) * 10 ≤ n = (le-div_iff_mul-le {k = 10} {x = 10 ^ (p - 1)} {y = n} (omega arith)).0 (r.2 i) in
                      subst (λ (m : ℕ). 10 ^ m ≤ n) (sym e) (omega (arith, pow-suc 10 (p - 1)))
                  | no i ↦
                      let e : p ≡ 1 = omega (arith, r.0) in
                      subst (λ (m : ℕ). 10 ^ m ≤ n) (sym e) (omega arith)
                ]),
          )
    ]

pub decimal_text_lem : (n : ℕ) → n < 2 ^ 64 → Text 10 1 (decimal_text n) n
unfolding decimal_text
decimal_text_lem n h = digits_text_lem 10 1 n (places_from 19 n) (fewest_from 19 n (omega arith))

-- parsing what is printed gives the number back, and what is accepted is what is printed of its number
pub decimal_back : (n : ℕ) → n < 2 ^ 64 → decimal_of (decimal_text n) ≡ Some n
decimal_back n h = decimal_accepts (decimal_text n) n (decimal_text_lem n h) h

pub decimal_only : (t : List ℕ) (n : ℕ) → decimal_of t ≡ Some n → t ≡ decimal_text n
decimal_only t n e = let r = decimal_reads t n e in same_text 10 1 n t (decimal_text n) (omega arith) r.0 (decimal_text_lem n r.1)

fewest_hex : (n : ℕ) → n < 2 ^ 64 → IsDigitCount 16 16 n 16
fewest_hex n h = (omega arith, omega arith, λ l. absurd (omega arith))

pub hex_text_lem : (n : ℕ) → n < 2 ^ 64 → Text 16 16 (hex_text n) n
unfolding hex_text
hex_text_lem n h = digits_text_lem 16 16 n 16 (fewest_hex n h)

pub hex_back : (n : ℕ) → n < 2 ^ 64 → hex_of (hex_text n) ≡ Some n
hex_back n h = hex_accepts (hex_text n) n (hex_text_lem n h) h

pub hex_only : (t : List ℕ) (n : ℕ) → hex_of t ≡ Some n → t ≡ hex_text n
hex_only t n e = let r = hex_reads t n e in same_text 16 16 n t (hex_text n) (omega arith) r.0 (hex_text_lem n r.1)

-- what io's `decimal` and `hex` write is the text
pub digits_decimal : (n k : ℕ) → n < 2 ^ 64 → IsDigitCount 10 1 n k → last_digits 10 k n ≡ decimal_text n
unfolding decimal_text
digits_decimal n k h x = digits_once 10 1 n k (places_from 19 n) (omega arith) x (fewest_from 19 n (omega arith))

pub length_decimal : (n : ℕ) → n < 2 ^ 64 → length (decimal_text n) ≤ 20
length_decimal n h = few_digits 10 1 n 20 (length (decimal_text n)) (omega arith) (omega arith) (omega arith) (decimal_text_lem n h).fewest

pub digits_hex : (n k : ℕ) → n < 2 ^ 64 → IsDigitCount 16 16 n k → last_digits 16 k n ≡ hex_text n
unfolding hex_text
digits_hex n k h x = digits_once 16 16 n k 16 (omega arith) x (fewest_hex n h)

pub length_hex : (n : ℕ) → length (hex_text n) ≡ 16
unfolding hex_text
length_hex n = length_digits 16 16 n

-- a decimal does not begin with a minus
pub first_glyph : (t : List ℕ) (n : ℕ) → decimal_of t ≡ Some n → get_or t 0 0 ≡ 45 → ⊥
unfolding decimal_of
first_glyph [] n e h = omega arith
first_glyph (c ∷ cs) n e h =
    let o = no_lead (ltb (length (c ∷ cs)) 1) (ltb 1 (length (c ∷ cs))) (eqb c 48) n (number_in 10 (c ∷ cs)) e in
    let p = opens 10 0 c n cs (number_from_lem 10 (omega arith) (c ∷ cs) ∙ o.2) in
    omega (arith, p.small, p.is_glyph, glyph_low (digit_of c) p.small)
