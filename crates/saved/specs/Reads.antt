-- What the functions that read a saved text hand back.
use Rattle.std.specs.Prelude.{◌≡◌, List, [], ◌∷◌, ◌++◌, map, ℕ, zero, suc, ◌+◌, ◌-◌, ◌*◌, ◌^◌, ◌≤◌, ◌<◌, min, eqb, leb, ℤ, length, get_or, take, drop, Option, Some, None, Result, Ok, Err}
use Rattle.text.specs.Bytes.{bytes}
use Rattle.text_lines.specs.Lines.{Got, bad, got, then, provided, ended, line, number_line}
use Rattle.styles.specs.declared.Identity.{Identity}
use Rattle.styles.specs.declared.Mark.{Mark}
use Rattle.styles.specs.declared.Party.{Party}
use Rattle.styles.specs.declared.Value.{Value}
use Rattle.styles.specs.Marks.{blank}
use Rattle.tank.specs.declared.Tank.{Tank}
use Rattle.tank.specs.Rules.{largest}
use Rattle.tank.specs.State.{table_of, runs_of, Formed}
use Rattle.tanks.specs.declared.Setting.{Setting}
use Rattle.tanks.specs.declared.Tanks.{Tanks}
use Rattle.tanks.specs.Settings.{limit_of}
use Rattle.tanks.specs.House.{House, fresh_house}
use Rattle.tanks.specs.Pool.{meaning, Sound}
use Rattle.script.specs.declared.Kind.{Kind}
use Rattle.script.specs.Reading.{kind_named, value_of}
use Rattle.runs.specs.Runs.{Run, run, runs, total, Spare}
use Rattle.runs.specs.Gather.{gather}
use Rattle.saved.specs.declared.ReadMarks.{ReadMarks}
use Rattle.saved.specs.declared.TankHead.{TankHead}
use Rattle.saved.specs.declared.TankLine.{TankLine}
use Rattle.saved.specs.declared.Begun.{Begun}
use Rattle.saved.specs.declared.Filled.{Filled}
use Rattle.saved.specs.declared.Restored.{Restored}
use Rattle.saved.specs.declared.ReadRuns.{ReadRuns}
use Rattle.saved.specs.Saved.{Saved}
use Rattle.saved.specs.Saying.{party_line, counter_line, kind_said, value_said, identity_lines, content_lines, mark_lines, marks_lines, run_lines, runs_lines, least_runs, most_runs, claimed, adds, tank_lines, tanks_lines, newest, Said, saying, view_in, house_in}

-- ---- Lines with a word
-- a party that was read, how many lines were read with it, and the place behind them
abbrev pub party_at : ℕ → ℕ → Option Party → Option (Party × ℕ × ℕ)
party_at lines place None = None
party_at lines place (Some who) = Some (who, lines, place)

-- a counter
abbrev pub counter_at : ℕ → ℕ → Option ℤ → Option (ℤ × ℕ × ℕ)
counter_at lines place None = None
counter_at lines place (Some z) = Some (z, lines, place)

-- a kind that was read, and the place behind its line
abbrev pub kind_at : ℕ → Option Kind → Option (Kind × ℕ)
kind_at place None = None
kind_at place (Some k) = Some (k, place)

-- a value
abbrev pub value_at : ℕ → Option Value → Option (Value × ℕ)
value_at place None = None
value_at place (Some v) = Some (v, place)

-- the line of a party, as one that has read n lines says it
abbrev pub got_party : List ℕ → ℕ → Option (Party × ℕ × ℕ) → Got Party
got_party text n None = bad (n + 1)
got_party text n (Some (who, lines, at)) = got who lines (drop at text)

-- that of a counter
abbrev pub got_counter : List ℕ → ℕ → Option (ℤ × ℕ × ℕ) → Got ℤ
got_counter text n None = bad (n + 1)
got_counter text n (Some (z, lines, at)) = got z lines (drop at text)

-- that of a kind
abbrev pub got_kind : List ℕ → ℕ → Option (Kind × ℕ) → Got Kind
got_kind text n None = bad (n + 1)
got_kind text n (Some (k, at)) = got k (n + 1) (drop at text)

-- that of a value
abbrev pub got_value : List ℕ → ℕ → Option (Value × ℕ) → Got Value
got_value text n None = bad (n + 1)
got_value text n (Some (v, at)) = got v (n + 1) (drop at text)

-- where a party's line ends
abbrev pub behind_party : Option (Party × ℕ × ℕ) → ℕ
behind_party None = 0
behind_party (Some (who, lines, at)) = at

-- where a counter's does
abbrev pub behind_counter : Option (ℤ × ℕ × ℕ) → ℕ
behind_counter None = 0
behind_counter (Some (z, lines, at)) = at

-- where a kind's does
abbrev pub behind_kind : Option (Kind × ℕ) → ℕ
behind_kind None = 0
behind_kind (Some (k, at)) = at

-- where a value's does
abbrev pub behind_value : Option (Value × ℕ) → ℕ
behind_value None = 0
behind_value (Some (v, at)) = at

-- how many lines were read with a party
abbrev pub lines_party : Option (Party × ℕ × ℕ) → ℕ
lines_party None = 0
lines_party (Some (who, lines, at)) = lines

-- with a counter
abbrev pub lines_counter : Option (ℤ × ℕ × ℕ) → ℕ
lines_counter None = 0
lines_counter (Some (z, lines, at)) = lines

-- the line of a party read from a place of a text on, behind n lines
pub record ReadsParty (version least : ℕ) (text : List ℕ) (from n : ℕ) (r : Option (Party × ℕ × ℕ)) : Type 0 where
  pub is : got_party text n r ≡ party_line version least n (drop from text)
  pub inside : behind_party r ≤ length text
  pub lines_most : lines_party r ≤ n + 1

-- that of a counter
pub record ReadsCounter (version : ℕ) (text : List ℕ) (from n : ℕ) (r : Option (ℤ × ℕ × ℕ)) : Type 0 where
  pub is : got_counter text n r ≡ counter_line version n (drop from text)
  pub inside : behind_counter r ≤ length text
  pub lines_most : lines_counter r ≤ n + 1

-- that of a kind
pub record ReadsKind (text : List ℕ) (from : ℕ) (r : Option (Kind × ℕ)) : Type 0 where
  pub is : (n : ℕ) → got_kind text n r ≡ line (bytes "kind=") (λ t. kind_said (kind_named t)) n (drop from text)
  pub inside : behind_kind r ≤ length text

-- that of a value
pub record ReadsValue (kind : Kind) (text : List ℕ) (from : ℕ) (r : Option (Value × ℕ)) : Type 0 where
  pub is : (n : ℕ) → got_value text n r ≡ line (bytes "value=") (λ t. value_said (value_of kind t)) n (drop from text)
  pub inside : behind_value r ≤ length text

-- ---- Marks
-- the lines of an identity, as the code says them
abbrev pub got_identity : List ℕ → ℕ → Result (Identity × ℕ) ℕ → Got Identity
got_identity text n (Err line) = bad line
got_identity text n (Ok (i, at)) = got i (n + 3) (drop at text)

-- where they end
abbrev pub behind_identity : Result (Identity × ℕ) ℕ → ℕ
behind_identity (Err line) = 0
behind_identity (Ok (i, at)) = at

-- the line that is wrong, and 1 where none is
abbrev pub wrong_identity : Result (Identity × ℕ) ℕ → ℕ
wrong_identity (Err line) = line
wrong_identity (Ok (i, at)) = 1

-- an identity read from a place of a text on
pub record ReadsIdentity (before : Option Mark) (who : Party) (text : List ℕ) (from n : ℕ) (r : Result (Identity × ℕ) ℕ) : Type 0 where
  pub is : got_identity text n r ≡ identity_lines before who n (drop from text)
  pub inside : behind_identity r ≤ length text
  pub counted : 1 ≤ wrong_identity r

-- the lines of a mark, as the code says them
abbrev pub got_mark : List ℕ → Result (Mark × ℕ × ℕ) ℕ → Got Mark
got_mark text (Err line) = bad line
got_mark text (Ok (m, lines, at)) = got m lines (drop at text)

-- where they end
abbrev pub behind_mark : Result (Mark × ℕ × ℕ) ℕ → ℕ
behind_mark (Err line) = 0
behind_mark (Ok (m, lines, at)) = at

-- how many lines were read with them
abbrev pub lines_mark : Result (Mark × ℕ × ℕ) ℕ → ℕ
lines_mark (Err line) = 0
lines_mark (Ok (m, lines, at)) = lines

-- the line that is wrong, and 1 where none is
abbrev pub wrong_mark : Result (Mark × ℕ × ℕ) ℕ → ℕ
wrong_mark (Err line) = line
wrong_mark (Ok (m, lines, at)) = 1

-- the rest of a mark read from a place of a text on, behind its identity
pub record ReadsContent (version : ℕ) (i : Identity) (text : List ℕ) (from n : ℕ) (r : Result (Mark × ℕ × ℕ) ℕ) : Type 0 where
  pub is : got_mark text r ≡ content_lines version i n (drop from text)
  pub inside : behind_mark r ≤ length text
  pub counted : 1 ≤ wrong_mark r
  pub lines_most : lines_mark r ≤ n + 4

-- a mark
pub record ReadsMark (version : ℕ) (before : Option Mark) (text : List ℕ) (from n : ℕ) (r : Result (Mark × ℕ × ℕ) ℕ) : Type 0 where
  pub is : got_mark text r ≡ mark_lines version before n (drop from text)
  pub inside : behind_mark r ≤ length text
  pub counted : 1 ≤ wrong_mark r
  pub lines_most : lines_mark r ≤ n + 8

-- marks, as the code says them: line 0 where all are good
abbrev pub got_marks : List ℕ → ℕ → ReadMarks → ℕ → Got (List Mark)
got_marks text count r zero = got (take count r.table) r.lines (drop r.at text)
got_marks text count r (suc k) = bad (suc k)

-- marks read from a place of a text on, blanks behind them
pub record ReadsMarks (version : ℕ) (text : List ℕ) (from n count : ℕ) (r : ReadMarks) : Type 0 where
  pub is : got_marks text count r r.line ≡ marks_lines version [] count n (drop from text)
  pub inside : r.at ≤ length text
  pub lines_most : r.lines ≤ n + 8 * count
  pub table_64 : length r.table ≡ 64
  pub blanks : (i : ℕ) → count ≤ i → get_or r.table i blank ≡ blank

-- ---- Runs
-- the two lines of a run, as the code says them
abbrev pub got_run : List ℕ → ℕ → Result (ℕ × ℕ × ℕ) ℕ → Got Run
got_run text n (Err line) = bad line
got_run text n (Ok (len, set, at)) = got (run len set) (n + 2) (drop at text)

-- where they end
abbrev pub behind_run : Result (ℕ × ℕ × ℕ) ℕ → ℕ
behind_run (Err line) = 0
behind_run (Ok (len, set, at)) = at

-- the line that is wrong, and 1 where none is
abbrev pub wrong_run : Result (ℕ × ℕ × ℕ) ℕ → ℕ
wrong_run (Err line) = line
wrong_run (Ok (len, set, at)) = 1

-- a run read from a place of a text on
pub record ReadsRun (before : Option ℕ) (most : ℕ) (text : List ℕ) (from n : ℕ) (r : Result (ℕ × ℕ × ℕ) ℕ) : Type 0 where
  pub is : got_run text n r ≡ run_lines most before n (drop from text)
  pub inside : behind_run r ≤ length text
  pub counted : 1 ≤ wrong_run r

-- runs, as the code says them: line 0 where all are good
abbrev pub got_runs : List ℕ → ℕ → ℕ → ReadRuns → ℕ → Got (List Run)
got_runs text n count r zero = got (runs r.lens r.sets count) n (drop r.at text)
got_runs text n count r (suc k) = bad (suc k)

-- runs read from a place of a text on: their lengths' sum as far as 2^63, all their sets together, zeros behind them
pub record ReadsRuns (most : ℕ) (text : List ℕ) (from n count : ℕ) (r : ReadRuns) : Type 0 where
  pub is : got_runs text (n + 2 * count) count r r.line ≡ runs_lines most [] count n (drop from text)
  pub inside : r.at ≤ length text
  pub sum : r.line ≡ 0 → r.sum ≡ min (2 ^ 63) (total (runs r.lens r.sets count))
  pub all : r.line ≡ 0 → r.all ≡ gather (runs r.lens r.sets count)
  pub spare : Spare r.lens r.sets count
  pub lens_514 : length r.lens ≡ 514
  pub sets_514 : length r.sets ≡ 514

-- ---- A tank
-- what is left of tank t's lines behind its marks
abbrev pub behind_marks : List Setting → List ℕ → ℕ → ℕ → ℕ → ℕ → List Mark → ℕ → List ℕ → Got Saved
behind_marks st held t b l k ms n text =
    then (number_line (bytes "runs=") (least_runs b) (most_runs b (limit_of st t)) n text) λ j n text.
    then (runs_lines (2 ^ k - 1) [] j n text) λ rs n text.
    provided (adds st held l ms rs) (record { touched = eqb b 1; length = l; marks = ms; runs = rs }) n text

-- the lines of tank t as far as its runs, whatever the settings are and the tanks before hold
pub record ReadsHead (version : ℕ) (text : List ℕ) (from t n : ℕ) (r : TankHead) : Type 0 where
  pub good : r.line ≡ 0 → (st : List Setting) (held : List ℕ)
      → tank_lines version st held t n (drop from text) ≡ behind_marks st held t r.flag r.length r.marks (take r.marks r.table) r.lines (drop r.at text)
  pub wrong : 0 < r.line → (st : List Setting) (held : List ℕ) → tank_lines version st held t n (drop from text) ≡ bad r.line
  pub inside : r.at ≤ length text
  pub lines_most : r.lines ≤ n + 4 + 8 * r.marks
  pub few : r.marks ≤ 64
  pub small : r.length ≤ largest
  pub table_64 : length r.table ≡ 64
  pub blanks : (i : ℕ) → r.marks ≤ i → get_or r.table i blank ≡ blank

-- a tank as far as its runs, from its marks and the lines before them
abbrev pub head_with : ReadMarks → ℕ → ℕ → ℕ → TankHead
head_with m flag length marks = record { line = 0; at = m.at; lines = m.lines; flag = flag; length = length; marks = marks; table = m.table }

-- all of it, with its runs
abbrev pub tank_with : TankHead → ReadRuns → ℕ → Tank
tank_with h r runs = record { touched = eqb h.flag 1; length = h.length; runs = runs; marks = h.marks; lens = r.lens; sets = r.sets; table = h.table }

-- a tank as it is stored
abbrev pub kept_in : Tank → Saved
kept_in t = record { touched = t.touched; length = t.length; marks = table_of t; runs = runs_of t }

-- the lines of tank t under a limit, but for refusal 10's sum, which is looked at behind its last line
pub record ReadsTank (version limit : ℕ) (text : List ℕ) (from t n : ℕ) (r : TankLine) : Type 0 where
  pub good : r.line ≡ 0 → (st : List Setting) (held : List ℕ) → limit_of st t ≡ limit
      → tank_lines version st held t n (drop from text) ≡ provided (leb (claimed st (held ++ r.tank.runs ∷ [])) 512) (kept_in r.tank) r.lines (drop r.at text)
  pub wrong : 0 < r.line → (st : List Setting) (held : List ℕ) → limit_of st t ≡ limit → tank_lines version st held t n (drop from text) ≡ bad r.line
  pub formed : r.line ≡ 0 → Formed r.tank
  pub few : r.line ≡ 0 → r.tank.runs ≤ limit
  pub inside : r.at ≤ length text
  pub lines_least : r.line ≡ 0 → 1 ≤ r.lines
  pub lines_most : r.lines ≤ n + 1541

-- ---- All of it
-- what eight tanks' lines say, and that the tanks are those
pub record Fills (version : ℕ) (st : List Setting) (text : List ℕ) (from : ℕ) (r : Filled) : Type 0 where
  pub saved : List Saved
  pub is : tanks_lines version st [] 8 17 (drop from text) ≡ got saved r.lines (drop r.at text)
  pub means : meaning r.tanks ≡ record { settings = st; tanks = map view_in saved }

pub record ReadsTanks (version : ℕ) (st : List Setting) (text : List ℕ) (from : ℕ) (r : Filled) : Type 0 where
  pub good : r.line ≡ 0 → Fills version st text from r
  pub wrong : 0 < r.line → tanks_lines version st [] 8 17 (drop from text) ≡ bad r.line
  pub sound : Sound r.tanks
  pub inside : r.at ≤ length text
  pub lines_most : r.lines ≤ 12345

-- what is left of a text behind its settings
abbrev pub behind_settings : ℕ → List Setting → ℕ → List ℕ → Got Said
behind_settings version st n text = then (tanks_lines version st [] 8 n text) λ ss n text. ended (record { version = version; settings = st; tanks = ss }) n text

-- the first 17 lines, and eight fresh tanks with their settings
pub record Begins (text : List ℕ) (r : Begun) : Type 0 where
  pub good : r.line ≡ 0 → saying newest text ≡ behind_settings r.version r.tanks.settings 17 (drop r.at text)
  pub wrong : 0 < r.line → saying newest text ≡ bad r.line
  pub sound : r.line ≡ 0 → Sound r.tanks
  pub fresh : r.line ≡ 0 → meaning r.tanks ≡ fresh_house r.tanks.settings
  pub inside : r.at ≤ length text

-- 13 beside a wrong line
abbrev pub restore_number : Got Said → ℕ
restore_number (bad n) = 13
restore_number (got s n text) = 0

-- the first wrong line, 0 for none
abbrev pub restore_line : Got Said → ℕ
restore_line (bad n) = n
restore_line (got s n text) = 0

-- the house that a text says, or the one that there was
abbrev pub restored : House → Got Said → House
restored h (bad n) = h
restored h (got s n text) = house_in s

-- what a restore hands back, by what the text says to a reader of the newest version and those before it
pub record Restores (s : Tanks) (text : List ℕ) (r : Restored) : Type 0 where
  pub number_is : r.number ≡ restore_number (saying newest text)
  pub line_is : r.line ≡ restore_line (saying newest text)
  pub is : meaning r.tanks ≡ restored (meaning s) (saying newest text)
  pub sound : Sound r.tanks
