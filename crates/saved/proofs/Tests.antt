-- Closed examples: a mark's lines in each version, and which of them is wrong.
use Rattle.std.specs.Prelude.{Some}
use mathlib.Core.Path.{◌≡◌, refl}
use mathlib.Core.Bool.{true, false}
use mathlib.Core.List.{List, [], ◌++◌}
use Prim.Native.Nat.{ℕ}
use lib.IntN.{ℤ, pos, negsuc}
use Rattle.text.specs.Bytes.{bytes, up_to, holds, starts_of, same_of}
use Rattle.text.specs.Number.{all_digits, value_in, number_in, decimal_of, places_from, decimal_text}
use Rattle.text.specs.Signed.{minus_of, signed_within, signed32_of, signed_text}
use Rattle.text_lines.specs.Lines.{Got, bad, got, line}
use Rattle.styles.specs.declared.Mark.{Mark}
use Rattle.styles.specs.declared.Party.{Party}
use Rattle.styles.specs.declared.Party.TheVariants.{Plant, Lab}
use Rattle.styles.specs.declared.Value.{Value}
use Rattle.styles.specs.Marks.{only}
use Rattle.tank.specs.Rules.{needs}
use Rattle.script.specs.Reading.{kind_named, value_of}
use Rattle.script.specs.Writing.{value_text}
use Rattle.saved.specs.Saved.{saved_mark}
use Rattle.saved.specs.Saying.{identity_lines, content_lines, mark_lines, roomy}

abbrev mark : Party → ℕ → ℤ → Mark
mark who key cnt = record { key = key; flags = 0x84; party = who; lamport = 5; cnt = cnt; peer = 1; value = Value.Flag true }

-- ---- the lines of a mark
plant_1 : saved_mark 1 (mark Plant 7 (pos 0)) ≡ bytes "key=7\nlamport=5\npeer=1\nflags=132\nkind=bool\nvalue=1\n"
unfolding saved_mark value_text decimal_text places_from
plant_1 = refl

plant_2 : saved_mark 2 (mark Plant 7 (pos 0)) ≡ bytes "party=plant\nkey=7\nlamport=5\npeer=1\nflags=132\nkind=bool\nvalue=1\n"
unfolding saved_mark value_text decimal_text places_from
plant_2 = refl

lab_3 : saved_mark 3 (mark Lab 7 (negsuc 11)) ≡ bytes "party=lab\nkey=7\nlamport=5\npeer=1\ncnt=-12\nflags=132\nkind=bool\nvalue=1\n"
unfolding saved_mark value_text decimal_text places_from signed_text
lab_3 = refl

-- ---- what lines say, behind those before them
abbrev reads : ℕ → Mark → List ℕ → Got Mark
reads version before text = mark_lines version (Some before) 30 text

-- a mark of the plant's behind one of the lab's is wrong at its party
plant_behind_lab : reads 2 (mark Lab 7 (pos 0)) (bytes "party=plant\nkey=9\nlamport=5\npeer=1\nflags=132\nkind=bool\nvalue=1\n") ≡ bad 31
unfolding mark_lines line up_to holds starts_of same_of
plant_behind_lab = refl

-- the lab's keys begin anew
lab_behind_plant : reads 2 (mark Plant 7 (pos 0)) (bytes "party=lab\nkey=3\nlamport=5\npeer=1\nflags=132\nkind=bool\nvalue=1\n") ≡ got (mark Lab 3 (pos 0)) 37 []
unfolding mark_lines identity_lines content_lines line up_to holds starts_of same_of decimal_of number_in all_digits value_in kind_named value_of
lab_behind_plant = refl

-- within a party they ascend, and an equal mark is wrong at its peer
equal_peer : reads 2 (mark Lab 3 (pos 0)) (bytes "party=lab\nkey=3\nlamport=5\npeer=1\nflags=132\nkind=bool\nvalue=1\n") ≡ bad 34
unfolding mark_lines identity_lines line up_to holds starts_of same_of decimal_of number_in all_digits value_in
equal_peer = refl

-- version 1 has no party and version 2 no counter; in version 3 there is no -0
party_in_1 : reads 1 (mark Plant 3 (pos 0)) (bytes "party=plant\nkey=9\nlamport=5\npeer=1\nflags=132\nkind=bool\nvalue=1\n") ≡ bad 31
unfolding mark_lines identity_lines line up_to holds starts_of
party_in_1 = refl

counter_in_2 : reads 2 (mark Plant 3 (pos 0)) (bytes "party=plant\nkey=9\nlamport=5\npeer=1\ncnt=0\nflags=132\nkind=bool\nvalue=1\n") ≡ bad 35
unfolding mark_lines identity_lines content_lines line up_to holds starts_of same_of decimal_of number_in all_digits value_in
counter_in_2 = refl

minus_zero : reads 3 (mark Plant 3 (pos 0)) (bytes "party=plant\nkey=9\nlamport=5\npeer=1\ncnt=-0\nflags=132\nkind=bool\nvalue=1\n") ≡ bad 35
unfolding mark_lines identity_lines content_lines line up_to holds starts_of same_of decimal_of number_in all_digits value_in signed32_of signed_within minus_of
minus_zero = refl

-- ---- refusal 8's sum
-- so many marks
abbrev many : Party → ℕ → List Mark
many who n = lib.ListN.replicate n (mark who 1 (pos 0))

rooms : (roomy (many Plant 64) ≡ true) × (roomy (many Plant 48 ++ many Lab 16) ≡ true) × (roomy (many Plant 49 ++ many Lab 1) ≡ false) × (roomy (many Plant 32 ++ many Lab 32) ≡ true) × (roomy (many Lab 33) ≡ false)
unfolding roomy needs only
rooms = (refl, refl, refl, refl, refl)
