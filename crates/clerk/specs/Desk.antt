-- What the console keeps beside the tanks, and what the calls that have to do with it do and answer: a row for each op. Then any call.
use Rattle.std.specs.Prelude.{◌≡◌, cond, List, [], ℕ, ◌+◌, ◌%◌, ◌^◌, ltb, set}
use Rattle.settings_text.specs.declared.Asked.{Asked}
use Rattle.settings_text.specs.declared.Kept.{Kept}
use Rattle.settings_text.specs.declared.Taken.{Taken}
use Rattle.settings_text.specs.Kept as keeping
use Rattle.settings_text.specs.Text as reading
use Rattle.day_log.specs.declared.Log.{Log}
use Rattle.day_log.specs.Log as logs
use Rattle.night.specs.declared.Plan.{Plan}
use Rattle.night.specs.declared.Range.{Range}
use Rattle.night.specs.Plans.{range, plan_of}
use Rattle.night.specs.Planning.{plan_number_by, house_after_plan_by}
use Rattle.tanks.specs.declared.Tanks.{Tanks}
use Rattle.strip.specs.declared.legend.Legend.{Legend}
use Rattle.strip.specs.Legend.{first_legend, with_letter}
use Rattle.strip.specs.Strip.{strip, strip_number}
use Rattle.styles.specs.declared.Party.{Party}
use Rattle.styles.specs.declared.Party.TheVariants.{Plant}
use Rattle.tanks.specs.House.{House, shown_at, open_number, opening}
use Rattle.tanks.specs.Pool.{meaning, Sound}
use Rattle.text_lines.specs.Lines.{Got}
use Rattle.saved.specs.Saying.{Said, newest, saying}
use Rattle.saved.specs.Reads.{restore_number, restore_line, restored}
use Rattle.script.specs.declared.Both.{Both}
use Rattle.script.specs.declared.Call.{Call}
use Rattle.script.specs.declared.Desk.{Desk}
use Rattle.script.specs.declared.Op.{Op}
use Rattle.script.specs.declared.Text.{Text}
use Rattle.script.specs.Args.{number_at, key_at, party_by}
use Rattle.answers.specs.Waiting.{Pieces, Adds}
use Rattle.answers.specs.Replies.{none_says, accepted_says, found_says, taken_says, report_says, range_count_says, strip_says, restored_says}
use Rattle.clerk.specs.declared.Moved.{Moved}
use Rattle.clerk.specs.declared.Noted.{Noted}
use Rattle.clerk.specs.declared.Side.{Side}
use Rattle.clerk.specs.Calls.{changed, change_says, answer_says, listing_says}

-- ---- What is kept
-- nothing yet, the legend that a strip has before one is said, and calls as the plant
abbrev pub empty_side : Side
empty_side = record { sets = keeping.kept_none; log = logs.fresh; pending = plan_of []; legend = first_legend; party = Plant }

-- other sets of settings
abbrev pub with_sets : Side → Kept → Side
with_sets side kept = record { sets = kept; log = side.log; pending = side.pending; legend = side.legend; party = side.party }

-- another log
abbrev pub with_log : Side → Log → Side
with_log side l = record { sets = side.sets; log = l; pending = side.pending; legend = side.legend; party = side.party }

-- other pending ranges
abbrev pub with_pending : Side → Plan → Side
with_pending side plan = record { sets = side.sets; log = side.log; pending = plan; legend = side.legend; party = side.party }

-- another legend
abbrev pub with_legend : Side → Legend → Side
with_legend side l = record { sets = side.sets; log = side.log; pending = side.pending; legend = l; party = side.party }

-- another party that calls are made as
abbrev pub with_party : Side → Party → Side
with_party side who = record { sets = side.sets; log = side.log; pending = side.pending; legend = side.legend; party = who }

-- one more range behind those of a plan: the 33rd makes a plan that is too long, and no more are counted
unfoldable pub one_more : Plan → Range → Plan
one_more p x = cond (ltb p.count 32) (record { count = p.count + 1; ranges = set p.ranges p.count x }) (record { count = 33; ranges = p.ranges })

-- it is in form
pub record Settled (side : Side) : Type 0 where
  pub sets : keeping.Sound side.sets
  pub log : logs.Sound side.log

-- ---- Calls that bring a text
-- settings: what taking the text hands back
abbrev pub taken_from : Side → List ℕ → Taken
taken_from side body = keeping.taken_of side.sets (reading.settings_of body)

-- log: where the tanks and the log are after a read of it
abbrev pub log_read : House → Side → List ℕ → logs.Course
log_read h side body = logs.after_bytes (logs.course_at h side.log) body

-- restore: what the text says, or its first wrong line
abbrev pub said_in : List ℕ → Got Said
said_in body = saying newest body

-- the tanks after it
unfoldable pub text_house : Text → House → Side → Call → List ℕ → House
text_house Text.Settings h side c body = h
text_house Text.Log h side c body = (log_read h side body).house
text_house Text.Restore h side c body = restored h (said_in body)

-- what is kept after it
unfoldable pub text_side : Text → House → Side → Call → List ℕ → Side
text_side Text.Settings h side c body = with_sets side (taken_from side body).kept
text_side Text.Log h side c body = with_log side (logs.log_at (log_read h side body))
text_side Text.Restore h side c body = side

-- its answer
unfoldable pub text_says : Text → House → Side → Call → List ℕ → Pieces
text_says Text.Settings h side c body = taken_says (taken_from side body)
text_says Text.Log h side c body = report_says (logs.log_at (log_read h side body))
text_says Text.Restore h side c body = restored_says (restore_number (said_in body)) (restore_line (said_in body))

-- ---- Calls that have to do with what is kept alone
-- the set that a call asks for
abbrev pub set_for : Side → Call → Asked
set_for side c = keeping.asked_of side.sets (number_at c 0)

-- the pending ranges, and behind them the one of a call
abbrev pub more_pending : Side → Call → Plan
more_pending side c = one_more side.pending (range (number_at c 0) (number_at c 1))

-- the legend with the key and the letter that a call has for one of its places
abbrev pub legend_for : Side → Call → Legend
legend_for side c = with_letter side.legend (number_at c 0) (key_at c 1) (number_at c 2 % 2 ^ 8)

-- what is kept after it; the end of a log has the next read begin another
unfoldable pub desk_side : Desk → Side → Call → Side
desk_side Desk.Set side c = side
desk_side Desk.LogEnd side c = with_log side logs.fresh
desk_side Desk.Range side c = with_pending side (more_pending side c)
desk_side Desk.Legend side c = with_legend side (legend_for side c)
desk_side Desk.Party side c = with_party side (party_by (number_at c 0))

-- its answer
unfoldable pub desk_says : Desk → Side → Call → Pieces
desk_says Desk.Set side c = found_says (set_for side c)
desk_says Desk.LogEnd side c = report_says (logs.at_end side.log)
desk_says Desk.Range side c = range_count_says (more_pending side c).count
desk_says Desk.Legend side c = accepted_says 0
desk_says Desk.Party side c = accepted_says 0

-- ---- Calls that have to do with that and with the tanks
-- the strip of a tank with a legend, as the plant is shown it, where there is room for so many bytes
abbrev pub strip_for : House → Legend → Call → Pieces
strip_for h l c =
    strip_says (strip_number (number_at c 0) (number_at c 2) (number_at c 3)) (strip (shown_at h Plant (number_at c 0)) l.keys l.letters (number_at c 1) (number_at c 2))

-- the tanks after it: those that opening with a kept set hands back, refused or not; without one they stay
unfoldable pub both_house : Both → House → Side → Call → House
both_house Both.OpenSet h side c = cond (set_for side c).found (opening (set_for side c).settings) h
both_house Both.Plan h side c = house_after_plan_by h (number_at c 0) side.party (key_at c 1) (number_at c 2) side.pending
both_house Both.Strip h side c = h

-- what is kept after it: a plan leaves none pending, accepted or not
unfoldable pub both_side : Both → House → Side → Call → Side
both_side Both.OpenSet h side c = side
both_side Both.Plan h side c = with_pending side (plan_of [])
both_side Both.Strip h side c = side

-- its answer
unfoldable pub both_says : Both → House → Side → Call → Pieces
both_says Both.OpenSet h side c = cond (set_for side c).found (accepted_says (open_number (set_for side c).settings)) none_says
both_says Both.Plan h side c = accepted_says (plan_number_by h (number_at c 0) side.party (key_at c 1) (number_at c 2) side.pending)
both_says Both.Strip h side c = strip_for h side.legend c

-- ---- Any call, with the body behind it where it has one, as the party that is kept
-- the eight tanks after it
unfoldable pub after_op : Op → House → Side → Call → List ℕ → House
after_op Op.Nothing h side c body = h
after_op (Op.Change e) h side c body = changed e h side.party c
after_op (Op.Question q) h side c body = h
after_op (Op.Listing l) h side c body = h
after_op (Op.Text x) h side c body = text_house x h side c body
after_op (Op.Desk d) h side c body = h
after_op (Op.Both b) h side c body = both_house b h side c

-- what is kept after it
unfoldable pub side_after : Op → House → Side → Call → List ℕ → Side
side_after Op.Nothing h side c body = side
side_after (Op.Change e) h side c body = side
side_after (Op.Question q) h side c body = side
side_after (Op.Listing l) h side c body = side
side_after (Op.Text x) h side c body = text_side x h side c body
side_after (Op.Desk d) h side c body = desk_side d side c
side_after (Op.Both b) h side c body = both_side b h side c

-- its answer
unfoldable pub says_of : Op → House → Side → Call → List ℕ → Pieces
says_of Op.Nothing h side c body = []
says_of (Op.Change e) h side c body = change_says e h side.party c
says_of (Op.Question q) h side c body = answer_says q h side.party c
says_of (Op.Listing l) h side c body = listing_says l h side.party c
says_of (Op.Text x) h side c body = text_says x h side c body
says_of (Op.Desk d) h side c body = desk_says d side c
says_of (Op.Both b) h side c body = both_says b h side c

-- ---- What the code hands back
-- what is kept then, in form, and an answer behind what waits
pub record Notes (side : Side) (says : Pieces) (buffer : List ℕ) (at : ℕ) (r : Noted) (out : List ℕ) : Type 0 where
  pub settled : Settled r.side
  pub is : r.side ≡ side
  pub answer : Adds buffer at says r.at out

-- the tanks too
pub record Moves (house : House) (side : Side) (says : Pieces) (buffer : List ℕ) (at : ℕ) (r : Moved) (out : List ℕ) : Type 0 where
  pub sound : Sound r.tanks
  pub settled : Settled r.side
  pub is : meaning r.tanks ≡ house
  pub keeps : r.side ≡ side
  pub answer : Adds buffer at says r.at out

-- a call performed as one of an op
abbrev pub Performs : Op → Tanks → Side → Call → List ℕ → List ℕ → ℕ → Moved → List ℕ → Type 0
Performs op s side c body buffer at r out = Moves (after_op op (meaning s) side c body) (side_after op (meaning s) side c body) (says_of op (meaning s) side c body) buffer at r out
