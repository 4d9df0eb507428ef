-- Small texts of names, read; and what keys are called then.
use mathlib.Core.Path.{◌≡◌, refl}
use mathlib.Core.List.{List, [], ◌∷◌}
use Rattle.text.specs.Bytes.{bytes, up_to, holds, starts_of, same_of}
use Rattle.text.specs.Number.{all_digits, value_in, number_in, decimal_of, decimal_text, places_from}
use Rattle.text_lines.specs.Lines.{bad, got, line}
use Rattle.key_names.specs.Names.{Named, all_in_name, is_name, name_line, name_lines, names_in, key_text, key_named, names_text}

two : List Named
two = record { key = 1; name = bytes "cleaning" } ∷ record { key = 7; name = bytes "hold" } ∷ []

says_two : names_in (bytes "cleaning=1\nhold=7\n") ≡ got two 2 []
unfolding two names_in name_lines line name_line is_name all_in_name up_to holds starts_of decimal_of number_in all_digits value_in
says_two = refl

writes_two : names_text two ≡ bytes "cleaning=1\nhold=7\n"
unfolding two names_text decimal_text places_from
writes_two = refl

-- a leading zero, a capital letter, no newline at the end, a blank line
wrong_zero : names_in (bytes "cleaning=1\nhold=07\nx=1\n") ≡ bad 2
unfolding names_in name_lines line name_line is_name all_in_name up_to holds starts_of decimal_of number_in all_digits value_in
wrong_zero = refl

wrong_capital : names_in (bytes "Hold=7\n") ≡ bad 1
unfolding names_in name_lines line name_line is_name all_in_name up_to holds starts_of decimal_of number_in all_digits value_in
wrong_capital = refl

wrong_end : names_in (bytes "a=1\nhold=7") ≡ bad 2
unfolding names_in name_lines line name_line is_name all_in_name up_to holds starts_of decimal_of number_in all_digits value_in
wrong_end = refl

wrong_blank : names_in (bytes "a=1\n\nb=2\n") ≡ bad 2
unfolding names_in name_lines line name_line is_name all_in_name up_to holds starts_of decimal_of number_in all_digits value_in
wrong_blank = refl

-- a key over 65535
wrong_key : names_in (bytes "a=65536\n") ≡ bad 1
unfolding names_in name_lines line name_line is_name all_in_name up_to holds starts_of decimal_of number_in all_digits value_in
wrong_key = refl

-- by the first name, and by the number
called_hold : key_text two 7 ≡ bytes "hold"
unfolding two key_text
called_hold = refl

called_eight : key_text two 8 ≡ bytes "key 8"
unfolding two key_text decimal_text places_from
called_eight = refl

named_hold : key_named two (bytes "hold") ≡ 7
unfolding two key_named same_of starts_of
named_hold = refl

named_none : key_named two (bytes "held") ≡ 65536
unfolding two key_named same_of starts_of
named_none = refl
