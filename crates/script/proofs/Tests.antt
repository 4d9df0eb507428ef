-- Closed examples: what the definitions say of a few lines.
use Rattle.std.specs.Prelude.{Some, None}
use mathlib.Core.Path.{◌≡◌, refl}
use mathlib.Core.Bool.{true}
use mathlib.Core.List.{List, [], ◌∷◌, ◌++◌, map}
use Prim.Native.Nat.{ℕ, suc}
use lib.IntN.{pos, negsuc}
use lib.ListN.{replicate}
use Rattle.text.specs.Number.{all_digits, value_in, number_in, decimal_of}
use Rattle.text.specs.Signed.{signed_of, signed32_of, plus_of, minus_of}
use Rattle.text.specs.Bytes.{bytes, up_to, holds, starts_of, same_of}
use Rattle.styles.specs.declared.Value.{Value}
use Rattle.script.specs.declared.Call.{Call}
use Rattle.script.specs.declared.Change.{Change}
use Rattle.script.specs.declared.Kind.{Kind}
use Rattle.script.specs.declared.Op.{Op}
use Rattle.script.specs.declared.Progress.{Progress}
use Rattle.script.specs.declared.Reader.{Reader}
use Rattle.script.specs.Grammar.{key, OpRow, ops, spelling}
use Rattle.script.specs.Reading.{number_of, party_of, op_named, value_of, fresh_of, moved_of, held_line, line_of}
use Rattle.script.specs.Lines.{empty_line, holding, cut_of, reader_at, State, read_of, after_of, reader_after}

numbered : ℕ → List OpRow → List ℕ
numbered i [] = []
numbered i (r ∷ rs) = i ∷ numbered (suc i) rs

-- every op is known by its name
names_known : map (λ (r : OpRow). op_named r.name) ops ≡ map Some (numbered 1 ops)
unfolding op_named same_of starts_of numbered
names_known = refl

-- a key has 16 bits, and another field's line is not taken for it
most_key : number_of key 65535 (bytes "key=65535") ≡ Some 65535
unfolding number_of starts_of decimal_of number_in all_digits value_in
most_key = refl

wide_key : number_of key 65535 (bytes "key=65536") ≡ None
unfolding number_of starts_of decimal_of number_in all_digits value_in
wide_key = refl

leading_zero : number_of key 65535 (bytes "key=07") ≡ None
unfolding number_of starts_of decimal_of number_in all_digits value_in
leading_zero = refl

other_field : number_of key 65535 (bytes "tank=7") ≡ None
unfolding number_of starts_of decimal_of number_in all_digits value_in
other_field = refl

minus_zero : value_of Kind.Whole (bytes "-0") ≡ None
unfolding value_of signed_of minus_of decimal_of number_in all_digits value_in
minus_zero = refl

-- an annotate whose peer has come: the counter's line is next, with its sign, and an older log's `flags=` is not taken for it
before_counter : Call
before_counter = record { op = Op.Change Change.Annotate; row = 2; place = 6; numbers = replicate 16 0; cnt = pos 0; kind = Kind.Null; value = Value.Null }

least_counter : (line_of before_counter (bytes "cnt=-2147483648")).call.cnt ≡ negsuc 2147483647
unfolding before_counter line_of held_line moved_of starts_of signed32_of minus_of decimal_of number_in all_digits value_in
least_counter = refl

wide_counter : (line_of before_counter (bytes "cnt=2147483648")).progress ≡ Progress.Bad
unfolding before_counter line_of held_line moved_of starts_of signed32_of plus_of decimal_of number_in all_digits value_in
wide_counter = refl

no_counter : (line_of before_counter (bytes "flags=132")).progress ≡ Progress.Bad
unfolding before_counter line_of held_line moved_of starts_of signed32_of
no_counter = refl

-- the one field of `length` makes the call whole
whole_call : (line_of (fresh_of 6) (bytes "tank=7")).progress ≡ Progress.Ready
unfolding line_of held_line moved_of number_of starts_of decimal_of number_in all_digits value_in
whole_call = refl

-- so does that of `party`, by one of two words
lab_named : (line_of (fresh_of 34) (bytes "party=lab")).call.numbers ≡ 1 ∷ replicate 15 0
unfolding line_of held_line party_of moved_of same_of starts_of
lab_named = refl

no_party : (line_of (fresh_of 34) (bytes "party=Lab")).progress ≡ Progress.Bad
unfolding line_of held_line party_of moved_of same_of starts_of
no_party = refl

out_of_order : (line_of (fresh_of 3) (bytes "at=7")).progress ≡ Progress.Bad
unfolding line_of held_line moved_of number_of starts_of decimal_of number_in all_digits value_in
out_of_order = refl

start : State
start = record { held = bytes "op=ru"; call = fresh_of 0; newlines = 4 }

-- a line whose start came before
second_half : after_of start (bytes "ns\ntank=1") ≡ record { held = []; call = fresh_of 8; newlines = 5 }
unfolding start after_of up_to holds line_of held_line op_named same_of starts_of
second_half = refl

-- the places behind a name are zeros
short_name : spelling (bytes "op=") ≡ record { text = bytes "op=" ++ replicate 13 0; len = 3 }
unfolding spelling
short_name = refl

-- a line keeps what stands in front of a newline
cut_line : cut_of (bytes "tank=1\nat=2") 0 empty_line ≡ record { line = record { text = bytes "tank=1" ++ replicate 59 0; count = 6 }; at = 7; whole = true }
unfolding up_to holds
cut_line = refl

-- a reader within a line
within : Reader
within = record { line = holding empty_line (bytes "tank="); call = fresh_of 6; newlines = 1 }

-- the line goes on behind what is kept
open_line : reader_after within (bytes "7") ≡ record { line = holding empty_line (bytes "tank=7"); call = fresh_of 6; newlines = 1 }
unfolding within reader_after after_of up_to holds line_of
open_line = refl

-- the next starts empty, here with a new call
next_line : reader_after within (bytes "7\nop=") ≡ reader_at (fresh_of 0) 2
unfolding within reader_after after_of up_to holds line_of held_line moved_of number_of starts_of decimal_of number_in all_digits value_in
next_line = refl

-- the call as a line's end leaves it, and before that as it was
named_call : (read_of start (bytes "ns\ntank=1")).call ≡ fresh_of 8
unfolding start up_to holds line_of held_line op_named same_of starts_of
named_call = refl

waiting_call : (read_of start (bytes "ns")).call ≡ fresh_of 0
unfolding start holds
waiting_call = refl
