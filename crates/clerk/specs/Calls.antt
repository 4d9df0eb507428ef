-- What a call that has to do with the tanks alone does to them, and what it answers: a row for each op.
use Rattle.std.specs.Prelude.{◌≡◌, List, [], ◌∷◌, ◌++◌, ℕ, ◌+◌, false, length}
use Rattle.styles.specs.declared.Party.{Party}
use Rattle.styles.specs.declared.Party.TheVariants.{Plant}
use Rattle.styles.specs.declared.Styles.{Styles}
use Rattle.styles.specs.Answers.{styles_of}
use Rattle.questions.specs.declared.Asked.{Asked}
use Rattle.questions.specs.declared.Shown.{Shown}
use Rattle.questions.specs.declared.Told.{Told}
use Rattle.questions.specs.Questions.{set_of, shared_of, extent_of, value_at, styles_at, style_at, stretch_at, styles_for_insert, style_for_insert, range_contains_key, range_has_key_value, styles_of_range}
use Rattle.lists.specs.Lists.{range_list, whole_list, range_needed, whole_needed, range_number, whole_number}
use Rattle.lists.specs.Anchors.{anchors, anchors_number}
use Rattle.tank.specs.Rules.{View, Edit, annotating, inserting, deleting, removing}
use Rattle.tanks.specs.declared.Edit as code
use Rattle.tanks.specs.declared.Head.{Head}
use Rattle.tanks.specs.declared.Run.{Run}
use Rattle.tanks.specs.declared.Setting.{Setting}
use Rattle.tanks.specs.declared.Table.{Table}
use Rattle.tanks.specs.declared.Tanks.{Tanks}
use Rattle.tanks.specs.House.{House, tank_at, held, open_number, opening, ask_number, refusal_at, after_at, inserted_set_at, removed_first_at}
use Rattle.tanks.specs.Looks.{shown_in}
use Rattle.tanks.specs.Pool.{meaning, Sound}
use Rattle.tanks.specs.Promises.{counts, says, edit_of, set_beside, first_beside}
use Rattle.night.specs.Ageings.{age_number_by, aged_house_by, dropped_by, remaining_by}
use Rattle.night.specs.Proposing.{proposal_at}
use Rattle.ask.specs.Asks.{ask_at, no_list, value_asked, marks_asked, mark_asked, stretch_asked, inherit_asked, inherited_asked, key_asked, all_value_asked, same_asked, range_needed_asked, whole_needed_asked}
use Rattle.ask.specs.Parts.{ask_in}
use Rattle.saved.specs.Writes.{written, write_number}
use Rattle.strip.specs.declared.legend.Legend.{Legend}
use Rattle.strip.specs.Strip.{strip, strip_number}
use Rattle.script.specs.declared.Both.{Both}
use Rattle.script.specs.declared.Call.{Call}
use Rattle.script.specs.declared.Change.{Change}
use Rattle.script.specs.declared.Listing.{Listing}
use Rattle.script.specs.declared.Op.{Op}
use Rattle.script.specs.declared.Question.{Question}
use Rattle.script.specs.Args.{number_at, key_at, mark_of, identity_of}
use Rattle.text.specs.Bytes.{bytes}
use Rattle.answers.specs.Waiting.{Pieces, Adds}
use Rattle.answers.specs.Replies.{line_says, refused_says, or_refused, accepted_says, styles_say, first_says, aged_says, count_says, touched_says, told_says, shown_says, asked_says, set_says, shared_says, extent_says, proposal_says, needed_says, list_says, anchors_say, strip_says, bytes_say}
use Rattle.clerk.specs.declared.Done.{Done}
use Rattle.clerk.specs.declared.Kind.{Kind}
use Rattle.clerk.specs.declared.Look.{Look}

-- ---- What a call speaks of, by the order of its op's fields
-- the tank is the first number of every call but `open`
abbrev pub tank_for : Call → ℕ
tank_for c = number_at c 0

-- where a range starts
abbrev pub start_in : Call → ℕ
start_in c = number_at c 1

-- and where it ends
abbrev pub end_in : Call → ℕ
end_in c = number_at c 2

-- a share, and the limit behind it
abbrev pub setting_at : Call → ℕ → Setting
setting_at c i = record { share = number_at c i; limit = number_at c (i + 1) }

-- the settings of an `open`: eight such pairs
abbrev pub settings_of : Call → List Setting
settings_of c = setting_at c 0 ∷ setting_at c 2 ∷ setting_at c 4 ∷ setting_at c 6 ∷ setting_at c 8 ∷ setting_at c 10 ∷ setting_at c 12 ∷ setting_at c 14 ∷ []

-- the edits by a party, as the rules have them: a mark on a range
abbrev pub annotation : Party → Call → Edit
annotation who c = annotating (start_in c) (end_in c) (mark_of who c)

-- so many new positions at a place
abbrev pub insertion : Party → Call → Edit
insertion who c = inserting who (number_at c 1) (number_at c 2)

-- a range less
abbrev pub deletion : Party → Call → Edit
deletion who c = deleting who (start_in c) (end_in c)

-- a mark taken off, backward from a last position
abbrev pub removal : Party → Call → Edit
removal who c = removing (identity_of who c) (number_at c 4)

-- up to where an ageing goes
abbrev pub before_in : Call → ℕ
before_in c = number_at c 1

-- and how many stretches it may drop
abbrev pub budget_in : Call → ℕ
budget_in c = number_at c 2

-- ---- The eight tanks after a call by a party: a row for each op that changes them; a question leaves them as they were
unfoldable pub changed : Change → House → Party → Call → House
changed Change.Open h who c = opening (settings_of c)
changed Change.Annotate h who c = after_at h (tank_for c) (annotation who c)
changed Change.Insert h who c = after_at h (tank_for c) (insertion who c)
changed Change.Delete h who c = after_at h (tank_for c) (deletion who c)
changed Change.Remove h who c = after_at h (tank_for c) (removal who c)
changed Change.Age h who c = aged_house_by h (tank_for c) who (before_in c) (budget_in c)

-- ---- Its answer
-- the marked stretches that a party is shown of a tank, where there is room for so many numbers
unfoldable pub whole_says : House → Party → ℕ → ℕ → Pieces
whole_says h who t room = ask_at h t who (refused_says 1) (λ v. or_refused (whole_number room v) (list_says t (whole_list v)))

-- the count of a tank's anchors, and all of them
abbrev pub all_anchors_say : View → Pieces
all_anchors_say v = line_says (bytes "anchors=") (length (anchors v)) ++ anchors_say (anchors v)

-- the text of all tanks, where there is room for so many bytes
unfoldable pub save_says : House → ℕ → Pieces
save_says h room = or_refused (write_number room h) (bytes_say (written h))

-- how many bytes it takes
unfoldable pub save_needed_says : House → Pieces
save_needed_says h = line_says (bytes "needed=") (length (written h))

-- of a call that changes the tanks: a row for each op
unfoldable pub change_says : Change → House → Party → Call → Pieces
change_says Change.Open h who c = accepted_says (open_number (settings_of c))
change_says Change.Annotate h who c = accepted_says (refusal_at h (tank_for c) (annotation who c))
change_says Change.Insert h who c = or_refused (refusal_at h (tank_for c) (insertion who c)) (styles_say (styles_of (inserted_set_at h (tank_for c) who (number_at c 1) (number_at c 2))))
change_says Change.Delete h who c = accepted_says (refusal_at h (tank_for c) (deletion who c))
change_says Change.Remove h who c = first_says (refusal_at h (tank_for c) (removal who c)) (removed_first_at h (tank_for c) (identity_of who c) (number_at c 4))
change_says Change.Age h who c =
    aged_says (age_number_by h (tank_for c) who (before_in c) (budget_in c)) (dropped_by h (tank_for c) who (before_in c) (budget_in c)) (remaining_by h (tank_for c) who (before_in c) (budget_in c))

-- of one that asks: length, touched, runs and proposals are alike for both parties
unfoldable pub answer_says : Question → House → Party → Call → Pieces
answer_says Question.Length h who c = count_says (bytes "length=") (counts (ask_number (tank_for c)) (tank_at h (tank_for c)).length)
answer_says Question.Touched h who c = touched_says (says (ask_number (tank_for c)) (tank_at h (tank_for c)).touched)
answer_says Question.Runs h who c = count_says (bytes "runs=") (counts (ask_number (tank_for c)) (held h (tank_for c)))
answer_says Question.Value h who c = shown_says (value_asked h (tank_for c) who (number_at c 1) (key_at c 2))
answer_says Question.HasKey h who c = told_says (key_asked h (tank_for c) who (start_in c) (end_in c) (key_at c 3))
answer_says Question.AllValue h who c = told_says (all_value_asked h (tank_for c) who (start_in c) (end_in c) (key_at c 3) c.value)
answer_says Question.Same h who c = shared_says (same_asked h (tank_for c) who (start_in c) (end_in c))
answer_says Question.Marks h who c = set_says (marks_asked h (tank_for c) who (number_at c 1))
answer_says Question.Inherit h who c = set_says (inherit_asked h (tank_for c) who (number_at c 1))
answer_says Question.Mark h who c = asked_says (mark_asked h (tank_for c) who (number_at c 1) (number_at c 2))
answer_says Question.Inherited h who c = asked_says (inherited_asked h (tank_for c) who (number_at c 1) (number_at c 2))
answer_says Question.Find h who c = extent_says (stretch_asked h (tank_for c) who (number_at c 1))
answer_says Question.Propose h who c = proposal_says (proposal_at h (tank_for c) (key_at c 1) (number_at c 2))

-- of one that is asked of one tank, from the parts of the state that the tank stands in: the same rows; the other questions are not among these
unfoldable pub look_says : Question → List Head → List Run → Table → Party → Call → Pieces
look_says Question.Length hs pool table who c = []
look_says Question.Touched hs pool table who c = []
look_says Question.Runs hs pool table who c = []
look_says Question.Value hs pool table who c = shown_says (ask_in hs pool table (tank_for c) who (Shown.Refused 1) (value_at (number_at c 1) (key_at c 2)))
look_says Question.HasKey hs pool table who c = told_says (ask_in hs pool table (tank_for c) who (Told.Refused 1) (range_contains_key (start_in c) (end_in c) (key_at c 3)))
look_says Question.AllValue hs pool table who c = told_says (ask_in hs pool table (tank_for c) who (Told.Refused 1) (range_has_key_value (start_in c) (end_in c) (key_at c 3) c.value))
look_says Question.Same hs pool table who c = shared_says (ask_in hs pool table (tank_for c) who (shared_of 1 false []) (styles_of_range (start_in c) (end_in c)))
look_says Question.Marks hs pool table who c = set_says (ask_in hs pool table (tank_for c) who (set_of 1 []) (styles_at (number_at c 1)))
look_says Question.Inherit hs pool table who c = set_says (ask_in hs pool table (tank_for c) who (set_of 1 []) (styles_for_insert (number_at c 1)))
look_says Question.Mark hs pool table who c = asked_says (ask_in hs pool table (tank_for c) who (Asked.Refused 1) (style_at (number_at c 1) (number_at c 2)))
look_says Question.Inherited hs pool table who c = asked_says (ask_in hs pool table (tank_for c) who (Asked.Refused 1) (style_for_insert (number_at c 1) (number_at c 2)))
look_says Question.Find hs pool table who c = extent_says (ask_in hs pool table (tank_for c) who (extent_of 1 0 0) (stretch_at (number_at c 1)))
look_says Question.Propose hs pool table who c = []

-- of one that asks for a list
unfoldable pub listing_says : Listing → House → Party → Call → Pieces
listing_says Listing.Stretches h who c = ask_at h (tank_for c) who (refused_says 1) (λ v. or_refused (range_number (start_in c) (end_in c) (number_at c 3) v) (list_says (tank_for c) (range_list (start_in c) (end_in c) v)))
listing_says Listing.StretchesNeeded h who c = needed_says (range_needed_asked h (tank_for c) who (start_in c) (end_in c))
listing_says Listing.Whole h who c = whole_says h who (tank_for c) (number_at c 1)
listing_says Listing.WholeNeeded h who c = needed_says (whole_needed_asked h (tank_for c) who)
listing_says Listing.Anchors h who c = ask_at h (tank_for c) who (refused_says 1) (λ v. or_refused (anchors_number (number_at c 1) v) (all_anchors_say v))
listing_says Listing.Save h who c = save_says h (number_at c 0)
listing_says Listing.SaveNeeded h who c = save_needed_says h

-- the marked stretches that a party is shown of a tank, from the parts of the state that it stands in
unfoldable pub whole_look : List Head → List Run → Table → Party → ℕ → ℕ → Pieces
whole_look hs pool table who t room = ask_in hs pool table t who (refused_says 1) (λ v. or_refused (whole_number room v) (list_says t (whole_list v)))

-- of a list of one tank, from these parts: the same rows; the text of all tanks is not among these
unfoldable pub list_look_says : Listing → List Head → List Run → Table → Party → Call → Pieces
list_look_says Listing.Stretches hs pool table who c = ask_in hs pool table (tank_for c) who (refused_says 1) (λ v. or_refused (range_number (start_in c) (end_in c) (number_at c 3) v) (list_says (tank_for c) (range_list (start_in c) (end_in c) v)))
list_look_says Listing.StretchesNeeded hs pool table who c = needed_says (ask_in hs pool table (tank_for c) who no_list (range_needed (start_in c) (end_in c)))
list_look_says Listing.Whole hs pool table who c = whole_look hs pool table who (tank_for c) (number_at c 1)
list_look_says Listing.WholeNeeded hs pool table who c = needed_says (ask_in hs pool table (tank_for c) who no_list whole_needed)
list_look_says Listing.Anchors hs pool table who c = ask_in hs pool table (tank_for c) who (refused_says 1) (λ v. or_refused (anchors_number (number_at c 1) v) (all_anchors_say v))
list_look_says Listing.Save hs pool table who c = []
list_look_says Listing.SaveNeeded hs pool table who c = []

-- of a strip with a legend, as the plant is shown the tank, from these parts
unfoldable pub strip_look : List Head → List Run → Table → Legend → Call → Pieces
strip_look hs pool table l c =
    strip_says (strip_number (tank_for c) (number_at c 2) (number_at c 3)) (strip (shown_in hs pool table (tank_for c) Plant) l.keys l.letters (number_at c 1) (number_at c 2))

-- of a question, a list or a strip
unfoldable pub looks_say : Look → List Head → List Run → Table → Legend → Party → Call → Pieces
looks_say (Look.Question q) hs pool table legend who c = look_says q hs pool table who c
looks_say (Look.Listing l) hs pool table legend who c = list_look_says l hs pool table who c
looks_say Look.Strip hs pool table legend who c = strip_look hs pool table legend c

-- ---- Any op, by a party: a question, of one tank where it stands or of the state, an edit of one tank as the code has it, or any other call
-- a question; the length, the touch and the runs are in the heads, and a proposal is made of a tank taken out
unfoldable pub question_kind : Question → Kind
question_kind Question.Length = Kind.Asks
question_kind Question.Touched = Kind.Asks
question_kind Question.Runs = Kind.Asks
question_kind Question.Value = Kind.Looks (Look.Question Question.Value)
question_kind Question.HasKey = Kind.Looks (Look.Question Question.HasKey)
question_kind Question.AllValue = Kind.Looks (Look.Question Question.AllValue)
question_kind Question.Same = Kind.Looks (Look.Question Question.Same)
question_kind Question.Marks = Kind.Looks (Look.Question Question.Marks)
question_kind Question.Inherit = Kind.Looks (Look.Question Question.Inherit)
question_kind Question.Mark = Kind.Looks (Look.Question Question.Mark)
question_kind Question.Inherited = Kind.Looks (Look.Question Question.Inherited)
question_kind Question.Find = Kind.Looks (Look.Question Question.Find)
question_kind Question.Propose = Kind.Asks

-- a list; a text is of the state
unfoldable pub listing_kind : Listing → Kind
listing_kind Listing.Stretches = Kind.Looks (Look.Listing Listing.Stretches)
listing_kind Listing.StretchesNeeded = Kind.Looks (Look.Listing Listing.StretchesNeeded)
listing_kind Listing.Whole = Kind.Looks (Look.Listing Listing.Whole)
listing_kind Listing.WholeNeeded = Kind.Looks (Look.Listing Listing.WholeNeeded)
listing_kind Listing.Anchors = Kind.Looks (Look.Listing Listing.Anchors)
listing_kind Listing.Save = Kind.Asks
listing_kind Listing.SaveNeeded = Kind.Asks

-- a change; opening and ageing are none of the four edits
unfoldable pub change_kind : Change → Party → Call → Kind
change_kind Change.Open who c = Kind.Other
change_kind Change.Annotate who c = Kind.Edits (code.Edit.Annotate (start_in c) (end_in c) (mark_of who c))
change_kind Change.Insert who c = Kind.Edits (code.Edit.Insert who (number_at c 1) (number_at c 2))
change_kind Change.Delete who c = Kind.Edits (code.Edit.Delete who (start_in c) (end_in c))
change_kind Change.Remove who c = Kind.Edits (code.Edit.Remove (identity_of who c) (number_at c 4))
change_kind Change.Age who c = Kind.Other

-- a call that has to do with the tanks and with what is kept; a strip changes neither
unfoldable pub both_kind : Both → Kind
both_kind Both.OpenSet = Kind.Other
both_kind Both.Plan = Kind.Other
both_kind Both.Strip = Kind.Looks Look.Strip

-- any call
unfoldable pub kind_of : Op → Party → Call → Kind
kind_of Op.Nothing who c = Kind.Other
kind_of (Op.Change e) who c = change_kind e who c
kind_of (Op.Question q) who c = question_kind q
kind_of (Op.Listing l) who c = listing_kind l
kind_of (Op.Text x) who c = Kind.Other
kind_of (Op.Desk d) who c = Kind.Other
kind_of (Op.Both b) who c = both_kind b

-- the answer to an edit, from what it hands back: its number, and beside it the marks that an insertion takes over or the first position that a removal gives
unfoldable pub edit_says : code.Edit → ℕ → Styles → ℕ → Pieces
edit_says (code.Edit.Annotate start end mark) number styles first = accepted_says number
edit_says (code.Edit.Insert who pos len) number styles first = or_refused number (styles_say styles)
edit_says (code.Edit.Delete who start end) number styles first = accepted_says number
edit_says (code.Edit.Remove id last) number styles first = first_says number first

-- and from the edit of tank t that is asked of a state
abbrev pub edit_answer : code.Edit → House → ℕ → Pieces
edit_answer e h t = edit_says e (refusal_at h t (edit_of e)) (styles_of (set_beside (inserted_set_at h t) (edit_of e))) (first_beside (removed_first_at h t) (edit_of e))

-- what is answered by those that only ask; the others are not among these
unfoldable pub asking_says : Op → House → Party → Call → Pieces
asking_says Op.Nothing h who c = []
asking_says (Op.Change e) h who c = []
asking_says (Op.Question q) h who c = answer_says q h who c
asking_says (Op.Listing l) h who c = listing_says l h who c
asking_says (Op.Text x) h who c = []
asking_says (Op.Desk d) h who c = []
asking_says (Op.Both b) h who c = []

-- an edit of tank t: the next state, and its answer behind what waits
pub record Edits (e : code.Edit) (s : Tanks) (t : ℕ) (d : List ℕ) (at : ℕ) (next : Tanks) (k : ℕ) (out : List ℕ) : Type 0 where
  pub sound : Sound next
  pub is : meaning next ≡ after_at (meaning s) t (edit_of e)
  pub answer : Adds d at (edit_answer e (meaning s) t) k out

-- a call that changes the tanks: the next state, and its answer behind what waits
pub record Changes (e : Change) (s : Tanks) (who : Party) (c : Call) (buffer : List ℕ) (at : ℕ) (r : Done) (out : List ℕ) : Type 0 where
  pub sound : Sound r.tanks
  pub is : meaning r.tanks ≡ changed e (meaning s) who c
  pub answer : Adds buffer at (change_says e (meaning s) who c) r.at out
