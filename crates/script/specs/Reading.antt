-- What a line gives to a call.
use Rattle.std.specs.Prelude.{◌≡◌, true, false, cond, List, [], ◌∷◌, ℕ, suc, ◌+◌, ltb, leb, eqb, ℤ, pos, length, get_or, drop, set, replicate, Option, Some, None}
use Rattle.std.specs.Float.Ieee.{of_bits}
use Rattle.std.specs.Float.{binary64}
use Rattle.text.specs.Number.{decimal_of, hex_of}
use Rattle.text.specs.Signed.{signed_of, signed32_of}
use Rattle.text.specs.Bytes.{bytes, starts_of, same_of}
use Rattle.styles.specs.declared.Party.TheVariants.{Plant, Lab}
use Rattle.styles.specs.declared.Value.{Value}
use Rattle.styles.specs.Order.{rank}
use Rattle.script.specs.declared.Call.{Call}
use Rattle.script.specs.declared.Holds.{Holds}
use Rattle.script.specs.declared.Kind.{Kind}
use Rattle.script.specs.declared.Op.{Op}
use Rattle.script.specs.declared.Progress.{Progress}
use Rattle.script.specs.declared.Read.{Read}
use Rattle.script.specs.Grammar.{Field, OpRow, ops, row_at, kind_name, field_at, progress_of}

-- where the value starts in a field's line
unfoldable pub start_of : Field → List ℕ → Option ℕ
start_of f line = cond (starts_of line f.name) (Some (length f.name)) None

-- what follows a field's name in its line, read in a way
abbrev pub after_name : {A : Type 0} → Field → A → (List ℕ → A) → List ℕ → A
after_name f bad way line = cond (starts_of line f.name) (way (drop (length f.name) line)) bad

-- a line that does not begin with a field's name is bad in whatever way it would be read
abbrev pub NoValue : Field → List ℕ → Type 0
NoValue f line = starts_of line f.name ≡ false

-- what stands behind the name
pub record HasValue (f : Field) (line value : List ℕ) : Type 0 where
  pub starts : starts_of line f.name ≡ true
  pub is : value ≡ drop (length f.name) line

-- a number that is at most so much
abbrev pub within_of : ℕ → Option ℕ → Option ℕ
within_of most None = None
within_of most (Some n) = cond (leb n most) (Some n) None

-- the number of a field's line
unfoldable pub number_of : Field → ℕ → List ℕ → Option ℕ
number_of f most line = after_name f None (λ t. within_of most (decimal_of t)) line

-- one byte, as its number
unfoldable pub byte_of : List ℕ → Option ℕ
byte_of t = cond (eqb (length t) 1) (Some (get_or t 0 0)) None

-- a party by its name, as its number in the order of marks
unfoldable pub party_of : List ℕ → Option ℕ
party_of t = cond (same_of t (bytes "plant")) (Some (rank Plant)) (cond (same_of t (bytes "lab")) (Some (rank Lab)) None)

-- the first of a list whose name is t, as `gives` says it, or what there is otherwise
abbrev pub among : {A R : Type 0} → (A → List ℕ) → (A → R) → List A → List ℕ → R → R
among name gives [] t other = other
among name gives (x ∷ xs) t other = cond (same_of t (name x)) (gives x) (among name gives xs t other)

-- the first row of a list that has a name, by its number, where the list begins with row i
abbrev pub op_from : ℕ → List OpRow → List ℕ → Option ℕ
op_from i [] t = None
op_from i (r ∷ rs) t = cond (same_of t r.name) (Some i) (op_from (suc i) rs t)

-- the op with a name, by its row
unfoldable pub op_named : List ℕ → Option ℕ
op_named t = op_from 1 ops t

-- of kinds
abbrev pub kind_among : List Kind → List ℕ → Option Kind → Option Kind
kind_among = among kind_name Some

-- the kind with a name
unfoldable pub kind_named : List ℕ → Option Kind
kind_named t = kind_among (Kind.Null ∷ Kind.Bool ∷ Kind.Whole ∷ Kind.Decimal ∷ []) t None

-- a whole number as a value
abbrev pub whole_of : Option ℤ → Option Value
whole_of None = None
whole_of (Some z) = Some (Value.Whole z)

-- a decimal as a value, from its bits
abbrev pub decimal_of_bits : Option ℕ → Option Value
decimal_of_bits None = None
decimal_of_bits (Some n) = Some (Value.Decimal (of_bits binary64 n))

-- a value of a kind: nothing, 0 or 1, a signed number, the sixteen hexadecimal digits of its bits
unfoldable pub value_of : Kind → List ℕ → Option Value
value_of Kind.Null t = cond (eqb (length t) 0) (Some Value.Null) None
value_of Kind.Bool t = cond (same_of t (bytes "0")) (Some (Value.Flag false)) (cond (same_of t (bytes "1")) (Some (Value.Flag true)) None)
value_of Kind.Whole t = whole_of (signed_of t)
value_of Kind.Decimal t = decimal_of_bits (hex_of t)

-- a call of which only the op is known, by its row
abbrev pub fresh_of : ℕ → Call
fresh_of row = record { op = (row_at row).op; row = row; place = 0; numbers = replicate 16 0; cnt = pos 0; kind = Kind.Null; value = Value.Null }

-- the call with one field more: whole where that was the last
unfoldable pub moved_of : Op → ℕ → ℕ → List ℕ → ℤ → Kind → Value → Read
moved_of op row place numbers cnt kind value =
    record {
      call = record { op = op; row = row; place = place + 1; numbers = numbers; cnt = cnt; kind = kind; value = value };
      progress = progress_of (field_at row (place + 1)).holds;
    }

-- a bad line leaves the call as it was
abbrev pub bad_of : Call → Read
bad_of c = record { call = c; progress = Progress.Bad }

-- what is read goes into the call: an op begins it anew, and one without fields is whole with its line
abbrev pub with_op : Call → Option ℕ → Read
with_op c None = bad_of c
with_op c (Some row) = record { call = fresh_of row; progress = progress_of (field_at row 0).holds }

-- a number goes to its field's place
abbrev pub with_number : Call → Option ℕ → Read
with_number c None = bad_of c
with_number c (Some n) = moved_of c.op c.row c.place (set c.numbers c.place n) c.cnt c.kind c.value

-- a counter is the call's counter
abbrev pub with_counter : Call → Option ℤ → Read
with_counter c None = bad_of c
with_counter c (Some z) = moved_of c.op c.row c.place c.numbers z c.kind c.value

-- a kind says how the value's line is read
abbrev pub with_kind : Call → Option Kind → Read
with_kind c None = bad_of c
with_kind c (Some k) = moved_of c.op c.row c.place c.numbers c.cnt k c.value

-- a value is the call's value
abbrev pub with_value : Call → Option Value → Read
with_value c None = bad_of c
with_value c (Some v) = moved_of c.op c.row c.place c.numbers c.cnt c.kind v

-- a line that gives what the field holds
unfoldable pub held_line : Call → Field → Holds → List ℕ → Read
held_line c f Holds.Nothing line = bad_of c
held_line c f Holds.Op line = with_op c (after_name f None op_named line)
held_line c f (Holds.Number most) line = with_number c (number_of f most line)
held_line c f Holds.Counter line = with_counter c (after_name f None signed32_of line)
held_line c f Holds.Kind line = with_kind c (after_name f None kind_named line)
held_line c f Holds.Value line = with_value c (after_name f None (value_of c.kind) line)
held_line c f Holds.Byte line = with_number c (after_name f None byte_of line)
held_line c f Holds.Party line = with_number c (after_name f None party_of line)

-- a line of at most 64 bytes gives the field that comes next
unfoldable pub line_of : Call → List ℕ → Read
unfolding held_line
line_of c line = cond (ltb 64 (length line)) (bad_of c) (held_line c (field_at c.row c.place) (field_at c.row c.place).holds line)
