-- Signed numbers as text: a minus in front of a decimal that is not 0.
use Rattle.std.specs.Prelude.{List, ◌∷◌, cond, ℕ, suc, ◌-◌, ◌^◌, ltb, eqb, ℤ, pos, negsuc, get_or, drop, Option, Some, None}
use Rattle.text.specs.Number.{decimal_of, decimal_text}

-- the number with no sign: below the bound
unfoldable pub plus_of : ℕ → Option ℕ → Option ℤ
plus_of bound None = None
plus_of bound (Some n) = cond (ltb n bound) (Some (pos n)) None

-- the number behind a minus: 1 to the bound, so that 0 has one text
unfoldable pub minus_of : ℕ → Option ℕ → Option ℤ
minus_of bound None = None
minus_of bound (Some n) = cond (ltb n 1) None (cond (ltb bound n) None (Some (negsuc (n - 1))))

-- what a text says as a number from minus the bound up to below it: a minus is byte 45
unfoldable pub signed_within : ℕ → List ℕ → Option ℤ
signed_within bound t = cond (eqb (get_or t 0 0) 45) (minus_of bound (decimal_of (drop 1 t))) (plus_of bound (decimal_of t))

-- as a signed number of 64 bits
unfoldable pub signed_of : List ℕ → Option ℤ
unfolding signed_within
signed_of t = signed_within (2 ^ 63) t

-- as one of 32
abbrev pub narrow_of : Option ℤ → Option ℤ
narrow_of None = None
narrow_of (Some z) = Some z

unfoldable pub signed32_of : List ℕ → Option ℤ
unfolding signed_within
signed32_of t = narrow_of (signed_within (2 ^ 31) t)

-- the text of a signed number
unfoldable pub signed_text : ℤ → List ℕ
signed_text (pos n) = decimal_text n
signed_text (negsuc n) = 45 ∷ decimal_text (suc n)
