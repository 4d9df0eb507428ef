-- What the code's steps rest on: digits, glyphs, one digit more, and that digit after digit gives the number that the text spells (`number_from_lem`).
use Rattle.std.specs.Prelude.{Option, Some, None}
use mathlib.Core.Path.{◌≡◌, refl, sym, ap, ◌∙◌}
use mathlib.Core.Bool.{Bool, true, false, cond, ◌&&◌}
use mathlib.Core.List.{List, [], ◌∷◌}
use Prim.Native.Nat.{ℕ, suc, ◌+◌, ◌-◌, ◌*◌, ◌^◌, ◌≤◌, ◌<◌}
use native.Mathlib.Nat.{pow-zero, pow-succ', one-le-pow, zero-mul, mul-one, mul_assoc, add-mul, le-mul_of_pos_right}
use native.Mathlib.Decide.{dec_lt}
use native.Mathlib.Omega.{arith}
use native.Mathlib.Numerals.{add-one}
use lib.ListN.{length, drop, get_or, drop_of_length-le}
use lib.Seq.{drop-cons}
use borrow.Author.Tests.{lt-ltb, le-ltb, eq-eqb}
use Rattle.io.specs.Digits.{hex_digit_ascii}
use Rattle.text.specs.Number.{digit_of, is_digit, all_digits, value_in, fitting, number_in}
use Rattle.laws.proofs.Cases.{cond_cases}

-- one digit more behind the number v
abbrev pub step_of : ℕ → ℕ → ℕ → Option ℕ
step_of b v c = cond (is_digit b c) (fitting (v * b + digit_of c)) None

-- what comes behind a number; behind what is bad nothing does
abbrev pub followed_by : Option ℕ → (ℕ → Option ℕ) → Option ℕ
followed_by None more = None
followed_by (Some v) more = more v

-- the digits of a text after the number v, one after another, as the loop reads them
unfoldable pub number_from : ℕ → ℕ → List ℕ → Option ℕ
number_from b v [] = Some v
number_from b v (c ∷ cs) = followed_by (step_of b v c) (λ w. number_from b w cs)

pub digit_low : (c : ℕ) → c < 58 → digit_of c ≡ c - 48
digit_low c h = simp (lt-ltb c 58 h)

pub digit_high : (c : ℕ) → 58 ≤ c → digit_of c ≡ c - 87
digit_high c h = simp (le-ltb c 58 h)

pub glyph_low : (d : ℕ) → d < 10 → hex_digit_ascii d ≡ 48 + d
glyph_low d h = simp (lt-ltb d 10 h)

pub glyph_high : (d : ℕ) → 10 ≤ d → hex_digit_ascii d ≡ 87 + d
glyph_high d h = simp (le-ltb d 10 h)

pub good : (b v c : ℕ) → digit_of c < b → hex_digit_ascii (digit_of c) ≡ c → v * b + digit_of c < 2 ^ 64 → Some (v * b + digit_of c) ≡ step_of b v c
good b v c h g w = simp (lt-ltb (digit_of c) b h, eq-eqb (hex_digit_ascii (digit_of c)) c g, lt-ltb (v * b + digit_of c) (2 ^ 64) w)

-- a step that is good goes on from its number, and a bad one ends the text
pub push : (b v c : ℕ) (cs : List ℕ) (p : Option ℕ) → step_of b v c ≡ p → number_from b v (c ∷ cs) ≡ followed_by p (λ w. number_from b w cs)
unfolding number_from
push b v c cs p e = ap (λ (q : Option ℕ). followed_by q (λ (w : ℕ). number_from b w cs)) e

-- a turn of the loop
module _ (b v i : ℕ) (s : List ℕ) (whole : Option ℕ) (h : i < length s) (inv : number_from b v (drop i s) ≡ whole) where
  pub turn : (p : Option ℕ) → step_of b v (get_or s i 0) ≡ p → followed_by p (λ w. number_from b w (drop (i + 1) s)) ≡ whole
  turn p e = rw (add-one i) (sym (push b v (get_or s i 0) (drop (suc i) s) p e) ∙ ap (number_from b v) (sym (drop-cons s i 0 h)) ∙ inv)

pub ends : (b v i : ℕ) (s : List ℕ) (whole : Option ℕ) → length s ≤ i → number_from b v (drop i s) ≡ whole → Some v ≡ whole
unfolding number_from
ends b v i s whole h inv = ap (number_from b v) (sym (drop_of_length-le s h)) ∙ inv

-- ---- the number that the loop reads is the one that the text spells
digit_more : (b v d k r : ℕ) → (v * b + d) * b ^ k + r ≡ v * b ^ suc k + (d * b ^ k + r)
digit_more b v d k r =
    let e : (v * b + d) * b ^ k ≡ v * b ^ suc k + d * b ^ k = add-mul (v * b) d (b ^ k) ∙ ap (λ (x : ℕ). x + d * b ^ k) (mul_assoc v b (b ^ k) ∙ ap (λ (x : ℕ). v * x) (sym (pow-succ' b k))) in
    omega arith

-- a number that left 64 bits stays out, whatever digits follow
stays_out : (b v k r : ℕ) → 1 ≤ b → 2 ^ 64 ≤ v → 2 ^ 64 ≤ v * b ^ k + r
stays_out b v k r one h = omega (arith, le-mul_of_pos_right {m = b ^ k} v (one-le-pow k b one))

module _ (b : ℕ) (one : 1 ≤ b) where
  -- the digits of a text after the number v, by value
  abbrev behind : ℕ → List ℕ → Option ℕ
  behind v t = cond (all_digits b t) (fitting (v * b ^ length t + value_in b t)) None

  from_cons : (v c : ℕ) (cs : List ℕ) (t : Bool) → ((w : ℕ) → w < 2 ^ 64 → number_from b w cs ≡ behind w cs)
      → followed_by (cond t (fitting (v * b + digit_of c)) None) (λ w. number_from b w cs)
      ≡ cond (t && all_digits b cs) (fitting (v * b ^ suc (length cs) + (digit_of c * b ^ length cs + value_in b cs))) None
  from_cons v c cs false more = refl
  from_cons v c cs true more =
      let w : ℕ = v * b + digit_of c in
      let e : w * b ^ length cs + value_in b cs ≡ v * b ^ suc (length cs) + (digit_of c * b ^ length cs + value_in b cs) = digit_more b v (digit_of c) (length cs) (value_in b cs) in
      rw (← e)
      (elim (dec_lt w (2 ^ 64)) [
        | yes k ↦ rw (lt-ltb w (2 ^ 64) k) (more w k)
        | no k ↦ rw (le-ltb w (2 ^ 64) (omega arith)) (rw (le-ltb (w * b ^ length cs + value_in b cs) (2 ^ 64) (stays_out b w (length cs) (value_in b cs) one (omega arith))) (cond_cases (λ p. None ≡ p) (all_digits b cs) (λ _. refl) (λ _. refl)))
      ])

  from_value : (t : List ℕ) (v : ℕ) → v < 2 ^ 64 → number_from b v t ≡ behind v t
  unfolding number_from all_digits value_in
  from_value [] v h =
      let e : v * b ^ 0 + 0 ≡ v = omega (arith, ap (λ (x : ℕ). v * x) (pow-zero b), mul-one v) in
      rw e (rw (lt-ltb v (2 ^ 64) h) refl)
  from_value (c ∷ cs) v h = from_cons v c cs (is_digit b c) (from_value cs)

  pub number_from_lem : (t : List ℕ) → number_from b 0 t ≡ number_in b t
  unfolding number_in
  number_from_lem t =
      let e : 0 * b ^ length t + value_in b t ≡ value_in b t = omega (arith, zero-mul (b ^ length t)) in
      from_value t 0 (omega arith) ∙ ap (λ (x : ℕ). cond (all_digits b t) (fitting x) None) e
