-- Numbers as text, in base b, over io's `digits`, `glyph` and `Fewest`: what the parsers answer, and what it is to be the text of a number.
use Rattle.std.specs.Prelude.{◌≡◌, List, [], ◌∷◌, ◌++◌, Bool, true, cond, ◌&&◌, ◌||◌, ℕ, zero, suc, ◌+◌, ◌-◌, ◌*◌, ◌/◌, ◌^◌, ltb, eqb, length, get_or, take, drop, Option, Some, None}
use Rattle.io.specs.Digits.{hex_digit_ascii, last_digits, IsDigitCount}

-- the digit that a glyph stands for: 0 to 9, a to f. For a byte that is no glyph the answer means nothing; `is_digit` leaves such bytes out
abbrev pub digit_of : ℕ → ℕ
digit_of c = cond (ltb c 58) (c - 48) (c - 87)

-- the digit of a byte that is its glyph
abbrev pub digit_read : ℕ → Option ℕ
digit_read c = cond (eqb (hex_digit_ascii (digit_of c)) c) (Some (digit_of c)) None

-- a byte is the glyph of a digit below b
abbrev pub is_digit : ℕ → ℕ → Bool
is_digit b c = ltb (digit_of c) b && eqb (hex_digit_ascii (digit_of c)) c

-- each byte of a text is such a glyph
unfoldable pub all_digits : ℕ → List ℕ → Bool
all_digits b [] = true
all_digits b (c ∷ cs) = is_digit b c && all_digits b cs

-- the value of a text of digits: each digit times b to the power of how many stand behind it
unfoldable pub value_in : ℕ → List ℕ → ℕ
value_in b [] = 0
value_in b (c ∷ cs) = digit_of c * b ^ length cs + value_in b cs

-- a number, or bad where 64 bits do not hold it
abbrev pub fitting : ℕ → Option ℕ
fitting n = cond (ltb n (2 ^ 64)) (Some n) None

-- the number that a text spells in base b: its value, where each byte is a digit and 64 bits hold it
unfoldable pub number_in : ℕ → List ℕ → Option ℕ
number_in b t = cond (all_digits b t) (fitting (value_in b t)) None

-- a decimal: at least one digit, and no 0 in front of another
unfoldable pub decimal_of : List ℕ → Option ℕ
decimal_of t = cond (ltb (length t) 1 || (ltb 1 (length t) && eqb (get_or t 0 0) 48)) None (number_in 10 t)

-- sixteen digits in base 16
unfoldable pub hex_of : List ℕ → Option ℕ
hex_of t = cond (eqb (length t) 16) (number_in 16 t) None

-- t is the text of n in base b, in the fewest digits that are at least `least`
pub record Text (b least : ℕ) (t : List ℕ) (n : ℕ) : Type 0 where
  pub fewest : IsDigitCount b least n (length t)
  pub spelled : t ≡ last_digits b (length t) n

-- how many digits n < 10 ^ (f + 1) has
unfoldable pub places_from : ℕ → ℕ → ℕ
places_from zero n = 1
places_from (suc f) n = cond (ltb n 10) 1 (suc (places_from f (n / 10)))

-- the decimal text of a number below 2^64
unfoldable pub decimal_text : ℕ → List ℕ
decimal_text n = last_digits 10 (places_from 19 n) n

-- its sixteen hexadecimal digits
unfoldable pub hex_text : ℕ → List ℕ
hex_text n = last_digits 16 16 n

-- d, with s from index at on
abbrev pub put : List ℕ → ℕ → List ℕ → List ℕ
put d at s = take at d ++ s ++ drop (at + length s) d
