-- docs/CONSOLE.md: the lines of each answer, as pieces of text.
use Rattle.std.specs.Prelude.{cond, ℕ, zero, suc, ◌+◌, ◌*◌, ◌/◌, min, length, get_or, take, drop, Option, Some, None, Result, Ok, Err}
use mathlib.Core.List.{List, [], ◌∷◌, ◌++◌, map, flat_map}
use Rattle.styles.specs.declared.Styles.{Styles}
use Rattle.richtext.specs.declared.AnchorType.{AnchorType}
use Rattle.questions.specs.declared.Asked.{Asked}
use Rattle.questions.specs.declared.Extent.{Extent}
use Rattle.questions.specs.declared.SetAsked.{SetAsked}
use Rattle.questions.specs.declared.Shared.{Shared}
use Rattle.questions.specs.declared.Shown.{Shown}
use Rattle.questions.specs.declared.Told.{Told}
use Rattle.lists.specs.declared.Listed.{Listed}
use Rattle.night.specs.declared.Plan.{Plan}
use Rattle.night.specs.declared.Range.{Range}
use Rattle.night.specs.Plans.{no_range}
use Rattle.lists.specs.declared.anchors.Anchor.{Anchor}
use Rattle.day_log.specs.declared.Log.{Log}
use Rattle.day_log.specs.declared.Stop.{Stop}
use Rattle.tank.specs.Rules.{when_accepted}
use Rattle.settings_text.specs.declared.Asked as sets
use Rattle.settings_text.specs.declared.Taken.{Taken}
use Rattle.settings_text.specs.Text.{share_name, limit_name}
use Rattle.tanks.specs.declared.Count.{Count}
use Rattle.tanks.specs.declared.Setting.{Setting}
use Rattle.tanks.specs.declared.YesNo.{YesNo}
use Rattle.tanks.specs.Settings.{no_setting}
use Rattle.text.specs.Bytes.{bytes}
use Rattle.script.specs.Writing.{line_text, field_text, value_text, mark_text}
use Rattle.answers.specs.Waiting.{Pieces, piece_room}

-- one line of a name and a number
abbrev pub line_says : List ℕ → ℕ → Pieces
line_says name n = field_text name n ∷ []

-- ---- What answers share
-- a refusal
abbrev pub refused_says : ℕ → Pieces
refused_says = line_says (bytes "refused=")

-- what an answer says, or a refusal
abbrev pub or_refused : ℕ → Pieces → Pieces
or_refused number says = when_accepted number says (refused_says number)

-- none of what was asked for
abbrev pub none_says : Pieces
none_says = line_says (bytes "none=") 1

-- a set: its count and its marks in order; there are no more than 64
abbrev pub styles_say : Styles → Pieces
styles_say m = field_text (bytes "marks=") m.count ∷ map mark_text (take (min m.count 64) m.marks)

-- ---- Edits
-- accepted, or the refusal
abbrev pub accepted_says : ℕ → Pieces
accepted_says number = or_refused number (line_says (bytes "accepted=") 1)

-- the first position of a removal, or the refusal
abbrev pub first_says : ℕ → ℕ → Pieces
first_says number first = or_refused number (line_says (bytes "first=") first)

-- how many stretches an ageing dropped, and what remains of `before`, or the refusal
abbrev pub aged_says : ℕ → ℕ → ℕ → Pieces
aged_says number dropped remaining = or_refused number (line_says (bytes "dropped=") dropped ++ line_says (bytes "remaining=") remaining)

-- ---- Questions
-- a count under its name
abbrev pub count_says : List ℕ → Count → Pieces
count_says name (Count.Refused n) = refused_says n
count_says name (Count.Counts n) = line_says name n

-- whether a tank is touched
abbrev pub touched_says : YesNo → Pieces
touched_says (YesNo.Refused n) = refused_says n
touched_says (YesNo.Says b) = line_says (bytes "touched=") (cond b 1 0)

-- yes or no
abbrev pub told_says : Told → Pieces
told_says (Told.Refused n) = refused_says n
told_says Told.No = line_says (bytes "yes=") 0
told_says Told.Yes = line_says (bytes "yes=") 1

-- a value
abbrev pub shown_says : Shown → Pieces
shown_says (Shown.Refused n) = refused_says n
shown_says Shown.Nothing = none_says
shown_says (Shown.Shows v) = value_text v ∷ []

-- a mark
abbrev pub asked_says : Asked → Pieces
asked_says (Asked.Refused n) = refused_says n
asked_says Asked.Nothing = none_says
asked_says (Asked.Found m) = mark_text m ∷ []

-- a set
abbrev pub set_says : SetAsked → Pieces
set_says a = or_refused a.number (styles_say a.styles)

-- the set that all positions share
abbrev pub shared_says : Shared → Pieces
shared_says a = or_refused a.number (cond a.agree (styles_say a.styles) none_says)

-- from where to where a stretch goes, both ends in it
abbrev pub extent_says : Extent → Pieces
extent_says e = or_refused e.number (line_says (bytes "first=") e.first ++ line_says (bytes "last=") e.last)

-- ---- Plans
-- how many ranges a plan has, or are pending
abbrev pub range_count_says : ℕ → Pieces
range_count_says = line_says (bytes "ranges=")

-- the two lines of a range
abbrev pub range_says : Range → Pieces
range_says x = line_says (bytes "start=") x.start ++ line_says (bytes "end=") x.end

-- those of so many ranges from range i on
unfoldable pub ranges_say : ℕ → ℕ → List Range → Pieces
ranges_say zero i xs = []
ranges_say (suc n) i xs = range_says (get_or xs i no_range) ++ ranges_say n (suc i) xs

-- a plan: how many ranges, and each; there are no more than 32
abbrev pub plan_says : Plan → Pieces
plan_says p = range_count_says p.count ++ ranges_say (min p.count 32) 0 p.ranges

-- a plan that is proposed, or none
abbrev pub proposal_says : Result (Option Plan) ℕ → Pieces
proposal_says (Ok (Some p)) = plan_says p
proposal_says (Ok None) = none_says
proposal_says (Err number) = refused_says number

-- ---- Lists
-- how much a list takes
abbrev pub needed_says : Listed → Pieces
needed_says l = or_refused l.number (line_says (bytes "needed=") l.count)

-- three lines for each stretch: start, end, count of marks
unfoldable pub stretches_say : List ℕ → Pieces
stretches_say [] = []
stretches_say (a ∷ []) = []
stretches_say (a ∷ b ∷ []) = []
stretches_say (a ∷ b ∷ n ∷ rest) = field_text (bytes "from=") a ∷ field_text (bytes "to=") b ∷ field_text (bytes "marks=") n ∷ stretches_say rest

-- a tank's stretches
abbrev pub list_says : ℕ → List ℕ → Pieces
list_says tank numbers = field_text (bytes "tank=") tank ∷ stretches_say numbers

-- the side of an anchor
abbrev pub side_says : AnchorType → Pieces
side_says AnchorType.Start = line_text (bytes "side=") (bytes "start") ∷ []
side_says AnchorType.End = line_text (bytes "side=") (bytes "end") ∷ []

-- the five lines of an anchor
abbrev pub anchor_says : Anchor → Pieces
anchor_says a = line_says (bytes "at=") a.at ++ side_says a.side ++ line_says (bytes "key=") a.key ++ line_says (bytes "lamport=") a.lamport ++ line_says (bytes "peer=") a.peer

-- anchors one after another
abbrev pub anchors_say : List Anchor → Pieces
anchors_say = flat_map anchor_says

-- ---- Settings
-- the two lines of a tank's pair
abbrev pub pair_says : ℕ → Setting → Pieces
pair_says t s = line_says (share_name t) s.share ++ line_says (limit_name t) s.limit

-- those of so many tanks from tank t on
unfoldable pub pairs_say : ℕ → ℕ → List Setting → Pieces
pairs_say zero t st = []
pairs_say (suc n) t st = pair_says t (get_or st t no_setting) ++ pairs_say n (suc t) st

-- a set that was asked for: its eight pairs, or none
unfoldable pub found_says : sets.Asked → Pieces
unfolding pairs_say
found_says a = cond a.found (pairs_say 8 0 a.settings) none_says

-- a text that was taken: the number of its set, or the refusal and the line
abbrev pub taken_says : Taken → Pieces
taken_says t = when_accepted t.number (line_says (bytes "set=") t.kept.number) (refused_says t.number ++ line_says (bytes "line=") t.line)

-- ---- Logs
-- where a log stands: how many lines were taken, or the refusal and the line at which it stopped
unfoldable pub stop_says : Stop → ℕ → Pieces
stop_says Stop.Going lines = line_says (bytes "lines=") lines
stop_says (Stop.Refused line number) lines = refused_says number ++ line_says (bytes "line=") line

-- what a log has come to: how many edits were applied, and where it stands
abbrev pub report_says : Log → Pieces
report_says l = line_says (bytes "applied=") l.edits ++ stop_says l.stop l.reader.newlines

-- ---- Strips
-- the cells of a strip on one line, or the refusal
abbrev pub strip_says : ℕ → List ℕ → Pieces
strip_says number cells = or_refused number (line_text (bytes "strip=") cells ∷ [])

-- ---- Texts
-- the i-th piece of a text, of 192 bytes or what is left, and so many behind it
unfoldable pub cut_up : ℕ → ℕ → List ℕ → Pieces
cut_up zero i t = []
cut_up (suc n) i t = take piece_room (drop (piece_room * i) t) ∷ cut_up n (suc i) t

-- how many pieces so many bytes make
abbrev pub piece_count : ℕ → ℕ
piece_count n = (n + 191) / piece_room

-- a text behind a line with the count of its bytes
unfoldable pub bytes_say : List ℕ → Pieces
unfolding cut_up
bytes_say t = line_says (bytes "bytes=") (length t) ++ cut_up (piece_count (length t)) 0 t

-- a text that was restored from: accepted, or the refusal and the line
abbrev pub restored_says : ℕ → ℕ → Pieces
restored_says number line = when_accepted number (accepted_says 0) (refused_says number ++ line_says (bytes "line=") line)
