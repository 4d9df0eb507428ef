-- The two tables of a call script: the fields, how the line of each begins and what it gives, and the ops, how each is called and which fields it has, in their order.
use Rattle.std.specs.Prelude.{List, [], ◌∷◌, ◌++◌, ℕ, ◌+◌, ◌-◌, ◌^◌, length, get_or, take, replicate}
use Prim.Native.String.{String}
use Rattle.script.specs.declared.Both.{Both}
use Rattle.script.specs.declared.Change.{Change}
use Rattle.script.specs.declared.Desk.{Desk}
use Rattle.script.specs.declared.Listing.{Listing}
use Rattle.script.specs.declared.Op.{Op}
use Rattle.script.specs.declared.Question.{Question}
use Rattle.script.specs.declared.Text.{Text}
use Rattle.script.specs.declared.Progress.{Progress}
use Rattle.script.specs.declared.Holds.{Holds}
use Rattle.script.specs.declared.Kind.{Kind}
use Rattle.script.specs.declared.Name.{Name}
use Rattle.text.specs.Bytes.{bytes}

-- ---- Fields
-- how a field's line begins, and what it gives
pub record Field : Type 0 where
  pub name : List ℕ
  pub holds : Holds

-- where no field is to come
abbrev pub no_field : Field
no_field = record { name = []; holds = Holds.Nothing }

-- a field by the word for it
abbrev pub field : String → Holds → Field
field word h = record { name = bytes word ++ bytes "="; holds = h }

-- the most that a number of so many bits can be
abbrev pub most_of : ℕ → ℕ
most_of bits = 2 ^ bits - 1

-- a field that gives a number of so many bits
abbrev pub number : String → ℕ → Field
number word bits = field word (Holds.Number (most_of bits))

-- a setting of one of the eight tanks: the tank's digit stands behind the word
abbrev pub setting : String → ℕ → Field
setting word i = record { name = bytes word ++ (48 + i) ∷ bytes "="; holds = Holds.Number (most_of 64) }

-- the line that names an op
abbrev pub op_line : Field
op_line = field "op" Holds.Op

-- a tank, and in it a range, a position, a length, or the last position that is looked at
abbrev pub tank : Field
tank = number "tank" 64

abbrev pub start : Field
start = number "start" 64

abbrev pub end : Field
end = number "end" 64

abbrev pub at : Field
at = number "at" 64

abbrev pub len : Field
len = number "len" 64

abbrev pub last : Field
last = number "last" 64

-- the parts of a mark; a kind says how the value's line is read
abbrev pub key : Field
key = number "key" 16

abbrev pub lamport : Field
lamport = number "lamport" 32

abbrev pub peer : Field
peer = number "peer" 64

abbrev pub cnt : Field
cnt = field "cnt" Holds.Counter

abbrev pub flags : Field
flags = number "flags" 8

abbrev pub kind : Field
kind = field "kind" Holds.Kind

abbrev pub value : Field
value = field "value" Holds.Value

-- which mark of a position is asked for, and how much an answer may take
abbrev pub rank : Field
rank = number "rank" 64

abbrev pub room : Field
room = number "room" 64

-- up to where a tank ages, and how many stretches a call may drop
abbrev pub before : Field
before = number "before" 64

abbrev pub budget : Field
budget = number "budget" 64

-- the key that holds a position from going, and how many runs a tank may keep
abbrev pub hold : Field
hold = number "hold" 16

abbrev pub runs : Field
runs = number "runs" 64

-- where a key and its letter stand in the legend of a strip, and the letter: one byte
abbrev pub place : Field
place = field "place" (Holds.Number 7)

abbrev pub letter : Field
letter = field "letter" Holds.Byte

-- how many positions a cell of a strip has
abbrev pub cell_size : Field
cell_size = number "k" 64

-- as whom the calls that follow are made
abbrev pub party : Field
party = field "party" Holds.Party

-- the most bytes that the body of a call may have
abbrev pub most_body : ℕ
most_body = 131072

-- how many bytes of a body follow its line
abbrev pub body_size : Field
body_size = field "bytes" (Holds.Number most_body)

-- which of the kept sets of settings is meant
abbrev pub set_number : Field
set_number = number "number" 64

-- a share and a limit for each of the eight tanks
abbrev pub settings : List Field
settings =
    setting "share" 0 ∷ setting "limit" 0 ∷ setting "share" 1 ∷ setting "limit" 1 ∷ setting "share" 2 ∷ setting "limit" 2 ∷ setting "share" 3 ∷ setting "limit" 3 ∷
    setting "share" 4 ∷ setting "limit" 4 ∷ setting "share" 5 ∷ setting "limit" 5 ∷ setting "share" 6 ∷ setting "limit" 6 ∷ setting "share" 7 ∷ setting "limit" 7 ∷ []

-- ---- Ops
-- an op, its name, and its fields in their order
pub record OpRow : Type 0 where
  pub op : Op
  pub name : List ℕ
  pub fields : List Field

-- a row of the table
abbrev pub row : Op → String → List Field → OpRow
row op word fields = record { op = op; name = bytes word; fields = fields }

-- of an op that changes the tanks
abbrev pub change : Change → String → List Field → OpRow
change e = row (Op.Change e)

-- of one that asks
abbrev pub question : Question → String → List Field → OpRow
question q = row (Op.Question q)

-- of one that asks for a list
abbrev pub listing : Listing → String → List Field → OpRow
listing l = row (Op.Listing l)

-- of one that brings a text, as the body behind its line
abbrev pub text : Text → String → List Field → OpRow
text x = row (Op.Text x)

-- of one that has to do with what is kept beside the tanks alone
abbrev pub desk : Desk → String → List Field → OpRow
desk d = row (Op.Desk d)

-- of one that has to do with that and the tanks
abbrev pub both : Both → String → List Field → OpRow
both b = row (Op.Both b)

-- the ops that a script can name
abbrev pub ops : List OpRow
ops =
    change Change.Open "open" settings ∷
    change Change.Annotate "annotate" (tank ∷ start ∷ end ∷ key ∷ lamport ∷ peer ∷ cnt ∷ flags ∷ kind ∷ value ∷ []) ∷
    change Change.Insert "insert" (tank ∷ at ∷ len ∷ []) ∷
    change Change.Delete "delete" (tank ∷ start ∷ end ∷ []) ∷
    change Change.Remove "remove" (tank ∷ key ∷ lamport ∷ peer ∷ last ∷ []) ∷
    question Question.Length "length" (tank ∷ []) ∷
    question Question.Touched "touched" (tank ∷ []) ∷
    question Question.Runs "runs" (tank ∷ []) ∷
    question Question.Value "value" (tank ∷ at ∷ key ∷ []) ∷
    question Question.HasKey "has_key" (tank ∷ start ∷ end ∷ key ∷ []) ∷
    question Question.AllValue "all_value" (tank ∷ start ∷ end ∷ key ∷ kind ∷ value ∷ []) ∷
    question Question.Same "same" (tank ∷ start ∷ end ∷ []) ∷
    question Question.Marks "marks" (tank ∷ at ∷ []) ∷
    question Question.Inherit "inherit" (tank ∷ at ∷ []) ∷
    question Question.Mark "mark" (tank ∷ at ∷ rank ∷ []) ∷
    question Question.Inherited "inherited" (tank ∷ at ∷ rank ∷ []) ∷
    listing Listing.Stretches "stretches" (tank ∷ start ∷ end ∷ room ∷ []) ∷
    listing Listing.StretchesNeeded "stretches_needed" (tank ∷ start ∷ end ∷ []) ∷
    listing Listing.Whole "whole" (tank ∷ room ∷ []) ∷
    listing Listing.WholeNeeded "whole_needed" (tank ∷ []) ∷
    listing Listing.Anchors "anchors" (tank ∷ room ∷ []) ∷
    question Question.Find "find" (tank ∷ at ∷ []) ∷
    change Change.Age "age" (tank ∷ before ∷ budget ∷ []) ∷
    text Text.Settings "settings" (body_size ∷ []) ∷
    desk Desk.Set "set" (set_number ∷ []) ∷
    both Both.OpenSet "open_set" (set_number ∷ []) ∷
    text Text.Log "log" (body_size ∷ []) ∷
    desk Desk.LogEnd "log_end" [] ∷
    desk Desk.Range "range" (start ∷ end ∷ []) ∷
    both Both.Plan "plan" (tank ∷ hold ∷ runs ∷ []) ∷
    question Question.Propose "propose" (tank ∷ hold ∷ runs ∷ []) ∷
    desk Desk.Legend "legend" (place ∷ key ∷ letter ∷ []) ∷
    both Both.Strip "strip" (tank ∷ start ∷ cell_size ∷ room ∷ []) ∷
    desk Desk.Party "party" (party ∷ []) ∷
    listing Listing.Save "save" (room ∷ []) ∷
    listing Listing.SaveNeeded "save_needed" [] ∷
    text Text.Restore "restore" (body_size ∷ []) ∷
    []

-- between two groups there is no op, and the line that names one is to come
abbrev pub idle_row : OpRow
idle_row = row Op.Nothing "" (op_line ∷ [])

-- where there is no row
abbrev pub no_row : OpRow
no_row = row Op.Nothing "" []

-- a call has its op by the number of its row: 0 between two groups, and from 1 on as above
abbrev pub op_rows : List OpRow
op_rows = idle_row ∷ ops

-- how many rows there are
abbrev pub op_count : ℕ
op_count = length op_rows

-- the row of a number
abbrev pub row_at : ℕ → OpRow
row_at i = get_or op_rows i no_row

-- the field at a place of a row, and none past the last
abbrev pub field_at : ℕ → ℕ → Field
field_at i place = get_or (row_at i).fields place no_field

-- ---- Progress, kinds and names
-- how a call stands when this comes next: whole where nothing does
abbrev pub progress_of : Holds → Progress
progress_of Holds.Nothing = Progress.Ready
progress_of Holds.Op = Progress.More
progress_of (Holds.Number most) = Progress.More
progress_of Holds.Counter = Progress.More
progress_of Holds.Kind = Progress.More
progress_of Holds.Value = Progress.More
progress_of Holds.Byte = Progress.More
progress_of Holds.Party = Progress.More

-- the name of a kind
abbrev pub kind_name : Kind → List ℕ
kind_name Kind.Null = bytes "null"
kind_name Kind.Bool = bytes "bool"
kind_name Kind.Whole = bytes "whole"
kind_name Kind.Decimal = bytes "decimal"

-- what a name spells
abbrev pub spelled_of : Name → List ℕ
spelled_of n = take n.len n.text

-- the name that bytes spell: zeros stand in the places behind them
unfoldable pub spelling : List ℕ → Name
spelling t = record { text = t ++ replicate (16 - length t) 0; len = length t }
