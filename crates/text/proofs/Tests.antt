-- Closed examples: what the definitions say of a few texts.
use Rattle.std.specs.Prelude.{Some, None}
use mathlib.Core.Path.{◌≡◌, refl}
use mathlib.Core.Bool.{false}
use mathlib.Core.List.{[], ◌∷◌}
use lib.IntN.{pos, negsuc}
use Rattle.text.specs.Number.{all_digits, value_in, number_in, decimal_of, decimal_text, places_from}
use Rattle.text.specs.Bytes.{bytes}
use Rattle.text.specs.Signed.{plus_of, minus_of, signed_of, signed32_of}

seven : decimal_of (55 ∷ []) ≡ Some 7
unfolding decimal_of number_in all_digits value_in
seven = refl

most : decimal_of (49 ∷ 56 ∷ 52 ∷ 52 ∷ 54 ∷ 55 ∷ 52 ∷ 52 ∷ 48 ∷ 55 ∷ 51 ∷ 55 ∷ 48 ∷ 57 ∷ 53 ∷ 53 ∷ 49 ∷ 54 ∷ 49 ∷ 53 ∷ []) ≡ Some 18446744073709551615
unfolding decimal_of number_in all_digits value_in
most = refl

too_wide : decimal_of (49 ∷ 56 ∷ 52 ∷ 52 ∷ 54 ∷ 55 ∷ 52 ∷ 52 ∷ 48 ∷ 55 ∷ 51 ∷ 55 ∷ 48 ∷ 57 ∷ 53 ∷ 53 ∷ 49 ∷ 54 ∷ 49 ∷ 54 ∷ []) ≡ None
unfolding decimal_of number_in all_digits value_in
too_wide = refl

-- 207, by its places
places : value_in 10 (50 ∷ 48 ∷ 55 ∷ []) ≡ 207
unfolding value_in
places = refl

-- a is a digit in base 16 and none in base 10; a capital A is none
letter : number_in 16 (49 ∷ 97 ∷ []) ≡ Some 26
unfolding number_in all_digits value_in
letter = refl

no_decimal : decimal_of (49 ∷ 97 ∷ []) ≡ None
unfolding decimal_of number_in all_digits value_in
no_decimal = refl

capital : all_digits 16 (65 ∷ []) ≡ false
unfolding all_digits
capital = refl

leading : decimal_of (48 ∷ 55 ∷ []) ≡ None
unfolding decimal_of number_in all_digits value_in
leading = refl

ten : decimal_text 10 ≡ 49 ∷ 48 ∷ []
unfolding decimal_text places_from
ten = refl

minus_zero : signed_of (45 ∷ 48 ∷ []) ≡ None
unfolding signed_of minus_of decimal_of number_in all_digits value_in
minus_zero = refl

minus_seven : signed_of (45 ∷ 55 ∷ []) ≡ Some (negsuc 6)
unfolding signed_of minus_of decimal_of number_in all_digits value_in
minus_seven = refl

-- 32 bits hold -2147483648 up to 2147483647
least_32 : signed32_of (bytes "-2147483648") ≡ Some (negsuc 2147483647)
unfolding signed32_of minus_of decimal_of number_in all_digits value_in
least_32 = refl

under_32 : signed32_of (bytes "-2147483649") ≡ None
unfolding signed32_of minus_of decimal_of number_in all_digits value_in
under_32 = refl

most_32 : signed32_of (bytes "2147483647") ≡ Some (pos 2147483647)
unfolding signed32_of plus_of decimal_of number_in all_digits value_in
most_32 = refl

over_32 : signed32_of (bytes "2147483648") ≡ None
unfolding signed32_of plus_of decimal_of number_in all_digits value_in
over_32 = refl
