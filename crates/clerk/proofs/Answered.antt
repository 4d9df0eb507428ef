-- A call that changes the tanks has an answer: where nothing waits after some bytes, the tanks are as they were.
use Rattle.std.proofs.Common.{Option, Some, None, Result, Ok, Err}
use mathlib.Core.Path.{◌≡◌, refl, sym, ap, ◌∙◌}
use mathlib.Core.Bool.{Bool, true, false, cond}
use mathlib.Core.List.{List, [], ◌∷◌, ◌++◌, map}
use Prim.Native.Nat.{ℕ, min}
use native.Mathlib.Omega.{arith}
use lib.Dec.{eqb, leb}
use lib.ListN.{length, take}
use Rattle.styles.specs.declared.Party.{Party}
use Rattle.styles.specs.declared.Party.TheVariants.{Plant}
use Rattle.styles.specs.Answers.{styles_of}
use Rattle.questions.specs.declared.Asked.{Asked}
use Rattle.questions.specs.declared.Extent.{Extent}
use Rattle.questions.specs.declared.SetAsked.{SetAsked}
use Rattle.questions.specs.declared.Shared.{Shared}
use Rattle.questions.specs.declared.Shown.{Shown}
use Rattle.questions.specs.declared.Told.{Told}
use Rattle.lists.specs.declared.Listed.{Listed}
use Rattle.lists.specs.Lists.{range_list, whole_list, range_number, whole_number}
use Rattle.lists.specs.Anchors.{anchors, anchors_number}
use Rattle.settings_text.specs.declared.Taken.{Taken}
use Rattle.tank.specs.Rules.{View, when_accepted}
use Rattle.tanks.specs.declared.Count.{Count}
use Rattle.tanks.specs.declared.YesNo.{YesNo}
use Rattle.tanks.specs.declared.Tanks.{Tanks}
use Rattle.tanks.specs.Pool.{meaning}
use Rattle.tanks.specs.House.{House, shown_at, tank_at, held, open_number, ask_number, refusal_at, inserted_set_at, removed_first_at}
use Rattle.tanks.specs.Promises.{counts, says}
use Rattle.night.specs.Ageings.{age_number_by, dropped_by, remaining_by}
use Rattle.night.specs.Planning.{plan_number_by}
use Rattle.night.specs.declared.Plan.{Plan}
use Rattle.night.specs.Proposing.{proposal_at}
use Rattle.day_log.specs.Log.{log_at}
use Rattle.day_log.specs.Log as logs
use Rattle.strip.specs.Strip.{strip, strip_number}
use Rattle.saved.specs.Reads.{restore_number, restore_line}
use Rattle.saved.specs.Writes.{written, write_number}
use Rattle.ask.specs.Asks.{ask_at, value_asked, marks_asked, mark_asked, stretch_asked, inherit_asked, inherited_asked, key_asked, all_value_asked, same_asked, range_needed_asked, whole_needed_asked}
use Rattle.text.specs.Bytes.{bytes}
use Rattle.script.specs.declared.Both.{Both}
use Rattle.script.specs.declared.Call.{Call}
use Rattle.script.specs.declared.Change.{Change}
use Rattle.script.specs.declared.Desk.{Desk}
use Rattle.script.specs.declared.Event.{Event}
use Rattle.script.specs.declared.Listing.{Listing}
use Rattle.script.specs.declared.Op.{Op}
use Rattle.script.specs.declared.Question.{Question}
use Rattle.script.specs.declared.Text.{Text}
use Rattle.script.specs.Args.{number_at, key_at, identity_of}
use Rattle.script.specs.Writing.{line_text, field_text, mark_text}
use Rattle.script.specs.Lines.{State, counted_of}
use Rattle.script.specs.Bodies.{Brought, brought_by}
use Rattle.answers.specs.Waiting.{Pieces}
use Rattle.answers.specs.Replies.{line_says, refused_says, or_refused, styles_say, none_says, accepted_says, count_says, touched_says, told_says, shown_says, asked_says, set_says, shared_says, extent_says, proposal_says, plan_says, needed_says, list_says, anchors_say, bytes_say, taken_says, restored_says, strip_says}
use Rattle.clerk.specs.declared.Side.{Side}
use Rattle.clerk.specs.Calls.{tank_for, start_in, end_in, settings_of, annotation, insertion, deletion, removal, before_in, budget_in, change_says, answer_says, listing_says, whole_says, save_says, save_needed_says, all_anchors_say}
use Rattle.clerk.specs.Desk.{taken_from, log_read, said_in, text_says, text_house, set_for, more_pending, desk_says, both_says, both_house, says_of, after_op}
use Rattle.clerk.specs.declared.Stand.{Stand}
use Rattle.clerk.specs.declared.Eaten.{Eaten}
use Rattle.clerk.specs.Course.{Course, said_on, house_on, on_brought, after_byte, after_bytes, course_of, Eats}
use Rattle.clerk.proofs.Full.{Full, silent, full_append, full_cond, line_full, one_full, refused_full, or_full, accepted_full, none_full, value_says, mark_says, styles_full, list_full, anchors_full, plan_full, found_full, two_full, report_full, bytes_full}

-- ---- No piece of any answer is empty
change_full : (e : Change) (h : House) (who : Party) (c : Call) → Full (change_says e h who c)
unfolding change_says
change_full Change.Open h who c = accepted_full (open_number (settings_of c))
change_full Change.Annotate h who c = accepted_full (refusal_at h (tank_for c) (annotation who c))
change_full Change.Insert h who c =
    let given = styles_of (inserted_set_at h (tank_for c) who (number_at c 1) (number_at c 2)) in
    or_full (refusal_at h (tank_for c) (insertion who c)) (styles_say given) (styles_full given)
change_full Change.Delete h who c = accepted_full (refusal_at h (tank_for c) (deletion who c))
change_full Change.Remove h who c =
    let first = removed_first_at h (tank_for c) (identity_of who c) (number_at c 4) in
    or_full (refusal_at h (tank_for c) (removal who c)) (line_says (bytes "first=") first) (one_full (bytes "first=") first)
change_full Change.Age h who c =
    let dropped = dropped_by h (tank_for c) who (before_in c) (budget_in c) in
    let remaining = remaining_by h (tank_for c) who (before_in c) (budget_in c) in
    or_full (age_number_by h (tank_for c) who (before_in c) (budget_in c)) (line_says (bytes "dropped=") dropped ++ line_says (bytes "remaining=") remaining) (two_full (bytes "dropped=") (bytes "remaining=") dropped remaining)

count_full : (name : List ℕ) (n : Count) → Full (count_says name n)
count_full name (Count.Refused n) = refused_full n
count_full name (Count.Counts n) = one_full name n

touched_full : (t : YesNo) → Full (touched_says t)
touched_full (YesNo.Refused n) = refused_full n
touched_full (YesNo.Says b) = one_full (bytes "touched=") (cond b 1 0)

shown_full : (s : Shown) → Full (shown_says s)
shown_full (Shown.Refused n) = refused_full n
shown_full Shown.Nothing = none_full
shown_full (Shown.Shows v) = value_says v

told_full : (t : Told) → Full (told_says t)
told_full (Told.Refused n) = refused_full n
told_full Told.No = one_full (bytes "yes=") 0
told_full Told.Yes = one_full (bytes "yes=") 1

asked_full : (a : Asked) → Full (asked_says a)
asked_full (Asked.Refused n) = refused_full n
asked_full Asked.Nothing = none_full
asked_full (Asked.Found m) = mark_says m

set_full : (a : SetAsked) → Full (set_says a)
set_full a = or_full a.number (styles_say a.styles) (styles_full a.styles)

shared_full : (a : Shared) → Full (shared_says a)
shared_full a = or_full a.number (cond a.agree (styles_say a.styles) none_says) (full_cond a.agree (styles_say a.styles) none_says (styles_full a.styles) none_full)

extent_full : (e : Extent) → Full (extent_says e)
extent_full e = or_full e.number (line_says (bytes "first=") e.first ++ line_says (bytes "last=") e.last) (two_full (bytes "first=") (bytes "last=") e.first e.last)

proposal_full : (p : Result (Option Plan) ℕ) → Full (proposal_says p)
proposal_full (Ok (Some p)) = plan_full p
proposal_full (Ok None) = none_full
proposal_full (Err number) = refused_full number

answer_full : (q : Question) (h : House) (who : Party) (c : Call) → Full (answer_says q h who c)
unfolding answer_says
answer_full Question.Length h who c = count_full (bytes "length=") (counts (ask_number (tank_for c)) (tank_at h (tank_for c)).length)
answer_full Question.Touched h who c = touched_full (says (ask_number (tank_for c)) (tank_at h (tank_for c)).touched)
answer_full Question.Runs h who c = count_full (bytes "runs=") (counts (ask_number (tank_for c)) (held h (tank_for c)))
answer_full Question.Value h who c = shown_full (value_asked h (tank_for c) who (number_at c 1) (key_at c 2))
answer_full Question.HasKey h who c = told_full (key_asked h (tank_for c) who (start_in c) (end_in c) (key_at c 3))
answer_full Question.AllValue h who c = told_full (all_value_asked h (tank_for c) who (start_in c) (end_in c) (key_at c 3) c.value)
answer_full Question.Same h who c = shared_full (same_asked h (tank_for c) who (start_in c) (end_in c))
answer_full Question.Marks h who c = set_full (marks_asked h (tank_for c) who (number_at c 1))
answer_full Question.Inherit h who c = set_full (inherit_asked h (tank_for c) who (number_at c 1))
answer_full Question.Mark h who c = asked_full (mark_asked h (tank_for c) who (number_at c 1) (number_at c 2))
answer_full Question.Inherited h who c = asked_full (inherited_asked h (tank_for c) who (number_at c 1) (number_at c 2))
answer_full Question.Find h who c = extent_full (stretch_asked h (tank_for c) who (number_at c 1))
answer_full Question.Propose h who c = proposal_full (proposal_at h (tank_for c) (key_at c 1) (number_at c 2))

-- what is asked of a tank, or the refusal where there is none
ask_full : (h : House) (t : ℕ) (who : Party) (tell : View → Pieces) → ((v : View) → Full (tell v)) → Full (ask_at h t who (refused_says 1) tell)
ask_full h t who tell f = full_cond (leb 8 t) (refused_says 1) (tell (shown_at h who t)) (refused_full 1) (f (shown_at h who t))

needed_full : (l : Listed) → Full (needed_says l)
needed_full l = or_full l.number (line_says (bytes "needed=") l.count) (one_full (bytes "needed=") l.count)

-- a tank's stretches, and its anchors
stretches_full : (h : House) (t : ℕ) (who : Party) (number : View → ℕ) (list : View → List ℕ) → Full (ask_at h t who (refused_says 1) (λ v. or_refused (number v) (list_says t (list v))))
stretches_full h t who number list = ask_full h t who (λ v. or_refused (number v) (list_says t (list v))) (λ v. or_full (number v) (list_says t (list v)) (list_full t (list v)))

all_anchors_full : (v : View) → Full (all_anchors_say v)
all_anchors_full v = full_append (line_says (bytes "anchors=") (length (anchors v))) (anchors_say (anchors v)) (one_full (bytes "anchors=") (length (anchors v))) (anchors_full (anchors v))

listing_full : (l : Listing) (h : House) (who : Party) (c : Call) → Full (listing_says l h who c)
unfolding listing_says whole_says save_says save_needed_says
listing_full Listing.Stretches h who c = stretches_full h (tank_for c) who (range_number (start_in c) (end_in c) (number_at c 3)) (range_list (start_in c) (end_in c))
listing_full Listing.StretchesNeeded h who c = needed_full (range_needed_asked h (tank_for c) who (start_in c) (end_in c))
listing_full Listing.Whole h who c = stretches_full h (tank_for c) who (whole_number (number_at c 1)) whole_list
listing_full Listing.WholeNeeded h who c = needed_full (whole_needed_asked h (tank_for c) who)
listing_full Listing.Anchors h who c =
    ask_full h (tank_for c) who (λ v. or_refused (anchors_number (number_at c 1) v) (all_anchors_say v)) (λ v. or_full (anchors_number (number_at c 1) v) (all_anchors_say v) (all_anchors_full v))
listing_full Listing.Save h who c = or_full (write_number (number_at c 0) h) (bytes_say (written h)) (bytes_full (written h))
listing_full Listing.SaveNeeded h who c = one_full (bytes "needed=") (length (written h))

-- one line, or the refusal and the line at which it is
either_full : (number : ℕ) (says : Pieces) (line : ℕ) → Full says → Full (when_accepted number says (refused_says number ++ line_says (bytes "line=") line))
either_full number says line f = full_cond (eqb number 0) says (refused_says number ++ line_says (bytes "line=") line) f (two_full (bytes "refused=") (bytes "line=") number line)

taken_full : (t : Taken) → Full (taken_says t)
taken_full t = either_full t.number (line_says (bytes "set=") t.kept.number) t.line (one_full (bytes "set=") t.kept.number)

text_full : (x : Text) (h : House) (side : Side) (c : Call) (body : List ℕ) → Full (text_says x h side c body)
unfolding text_says
text_full Text.Settings h side c body = taken_full (taken_from side body)
text_full Text.Log h side c body = report_full (log_at (log_read h side body))
text_full Text.Restore h side c body = either_full (restore_number (said_in body)) (accepted_says 0) (restore_line (said_in body)) (accepted_full 0)

desk_full : (d : Desk) (side : Side) (c : Call) → Full (desk_says d side c)
unfolding desk_says
desk_full Desk.Set side c = found_full (set_for side c)
desk_full Desk.LogEnd side c = report_full (logs.at_end side.log)
desk_full Desk.Range side c = one_full (bytes "ranges=") (more_pending side c).count
desk_full Desk.Legend side c = accepted_full 0
desk_full Desk.Party side c = accepted_full 0

strip_full : (number : ℕ) (cells : List ℕ) → Full (strip_says number cells)
unfolding Full
strip_full number cells = or_full number (line_text (bytes "strip=") cells ∷ []) (line_full (bytes "strip=") cells, tt)

both_full : (b : Both) (h : House) (side : Side) (c : Call) → Full (both_says b h side c)
unfolding both_says
both_full Both.OpenSet h side c =
    full_cond (set_for side c).found (accepted_says (open_number (set_for side c).settings)) none_says (accepted_full (open_number (set_for side c).settings)) none_full
both_full Both.Plan h side c = accepted_full (plan_number_by h (number_at c 0) side.party (key_at c 1) (number_at c 2) side.pending)
both_full Both.Strip h side c =
    strip_full (strip_number (number_at c 0) (number_at c 2) (number_at c 3)) (strip (shown_at h Plant (number_at c 0)) side.legend.keys side.legend.letters (number_at c 1) (number_at c 2))

op_full : (op : Op) (h : House) (side : Side) (c : Call) (body : List ℕ) → Full (says_of op h side c body)
unfolding says_of Full
op_full Op.Nothing h side c body = tt
op_full (Op.Change e) h side c body = change_full e h side.party c
op_full (Op.Question q) h side c body = answer_full q h side.party c
op_full (Op.Listing l) h side c body = listing_full l h side.party c
op_full (Op.Text x) h side c body = text_full x h side c body
op_full (Op.Desk d) h side c body = desk_full d side c
op_full (Op.Both b) h side c body = both_full b h side c

said_full : (e : Event) (h : House) (side : Side) (r : State) (c : Call) (body : List ℕ) → Full (said_on e h side r c body)
unfolding said_on Full
said_full Event.Nothing h side r c body = tt
said_full Event.Bad h side r c body = one_full (bytes "malformed=") (counted_of r.newlines)
said_full Event.Call h side r c body = op_full c.op h side c body

-- ---- A call without an answer leaves the tanks as they were
-- an answer, or a refusal, is one
some_cond : (b : Bool) (t u : List ℕ) (ts us : Pieces) → cond b (t ∷ ts) (u ∷ us) ≡ [] → ⊥
some_cond true t u ts us e = omega (arith, ap length e)
some_cond false t u ts us e = omega (arith, ap length e)

or_said : (number : ℕ) (t : List ℕ) (ts : Pieces) → or_refused number (t ∷ ts) ≡ [] → ⊥
or_said number t ts = some_cond (eqb number 0) t (field_text (bytes "refused=") number) ts []

accepted_said : (number : ℕ) → accepted_says number ≡ [] → ⊥
accepted_said number = or_said number (field_text (bytes "accepted=") 1) []

change_said : (e : Change) (h : House) (who : Party) (c : Call) → change_says e h who c ≡ [] → ⊥
unfolding change_says
change_said Change.Open h who c = accepted_said (open_number (settings_of c))
change_said Change.Annotate h who c = accepted_said (refusal_at h (tank_for c) (annotation who c))
change_said Change.Insert h who c =
    let given = styles_of (inserted_set_at h (tank_for c) who (number_at c 1) (number_at c 2)) in
    or_said (refusal_at h (tank_for c) (insertion who c)) (field_text (bytes "marks=") given.count) (map mark_text (take (min given.count 64) given.marks))
change_said Change.Delete h who c = accepted_said (refusal_at h (tank_for c) (deletion who c))
change_said Change.Remove h who c = or_said (refusal_at h (tank_for c) (removal who c)) (field_text (bytes "first=") (removed_first_at h (tank_for c) (identity_of who c) (number_at c 4))) []
change_said Change.Age h who c =
    or_said (age_number_by h (tank_for c) who (before_in c) (budget_in c)) (field_text (bytes "dropped=") (dropped_by h (tank_for c) who (before_in c) (budget_in c))) (line_says (bytes "remaining=") (remaining_by h (tank_for c) who (before_in c) (budget_in c)))

restored_said : (number line : ℕ) → restored_says number line ≡ [] → ⊥
restored_said number line = some_cond (eqb number 0) (field_text (bytes "accepted=") 1) (field_text (bytes "refused=") number) [] (line_says (bytes "line=") line)

opened_said : (b : Bool) (number : ℕ) → cond b (accepted_says number) none_says ≡ [] → ⊥
opened_said true number e = accepted_said number e
opened_said false number e = omega (arith, ap length e)

text_kept : (x : Text) (h : House) (side : Side) (c : Call) (body : List ℕ) → text_says x h side c body ≡ [] → text_house x h side c body ≡ h
unfolding text_says text_house
text_kept Text.Settings h side c body e = refl
text_kept Text.Log h side c body e = absurd (omega (arith, ap length e))
text_kept Text.Restore h side c body e = absurd (restored_said (restore_number (said_in body)) (restore_line (said_in body)) e)

both_kept : (b : Both) (h : House) (side : Side) (c : Call) → both_says b h side c ≡ [] → both_house b h side c ≡ h
unfolding both_says both_house
both_kept Both.OpenSet h side c e = absurd (opened_said (set_for side c).found (open_number (set_for side c).settings) e)
both_kept Both.Plan h side c e = absurd (accepted_said (plan_number_by h (number_at c 0) side.party (key_at c 1) (number_at c 2) side.pending) e)
both_kept Both.Strip h side c e = refl

op_kept : (op : Op) (h : House) (side : Side) (c : Call) (body : List ℕ) → says_of op h side c body ≡ [] → after_op op h side c body ≡ h
unfolding says_of after_op
op_kept Op.Nothing h side c body e = refl
op_kept (Op.Change x) h side c body e = absurd (change_said x h side.party c e)
op_kept (Op.Question q) h side c body e = refl
op_kept (Op.Listing l) h side c body e = refl
op_kept (Op.Text x) h side c body e = text_kept x h side c body e
op_kept (Op.Desk d) h side c body e = refl
op_kept (Op.Both b) h side c body e = both_kept b h side c e

event_kept : (e : Event) (h : House) (side : Side) (r : State) (c : Call) (body : List ℕ) → said_on e h side r c body ≡ [] → house_on e h side c body ≡ h
unfolding said_on
event_kept Event.Nothing h side r c body e = refl
event_kept Event.Bad h side r c body e = refl
event_kept Event.Call h side r c body e = op_kept c.op h side c body e

-- ---- Bytes
-- nothing waits, before and after, and the tanks stayed
pub record Still (x y : Course) : Type 0 where
  pub before : x.waits.at ≡ 0
  pub house : y.house ≡ x.house

brought_still : (x : Course) (b : Brought) → (on_brought x b).waits.at ≡ 0 → Still x (on_brought x b)
unfolding on_brought
brought_still x b e =
    let s = silent x.waits (said_on b.event x.house x.side b.stage.lines b.call b.body) (said_full b.event x.house x.side b.stage.lines b.call b.body) e in
    record { before = s.before; house = event_kept b.event x.house x.side b.stage.lines b.call b.body s.none }

byte_still : (x : Course) (byte : ℕ) → (after_byte x byte).waits.at ≡ 0 → Still x (after_byte x byte)
unfolding after_byte
byte_still x byte = by x.over where
  by : (over : Bool) → (cond over x (on_brought x (brought_by x.stage (byte ∷ [])))).waits.at ≡ 0 → Still x (cond over x (on_brought x (brought_by x.stage (byte ∷ []))))
  by true e = record { before = e; house = refl }
  by false e = brought_still x (brought_by x.stage (byte ∷ [])) e

-- where nothing waits after some bytes, the tanks are as they were before them
pub bytes_still : (x : Course) (input : List ℕ) → (after_bytes x input).waits.at ≡ 0 → Still x (after_bytes x input)
unfolding after_bytes
bytes_still x [] e = record { before = e; house = refl }
bytes_still x (byte ∷ input) e =
    let rest = bytes_still (after_byte x byte) input e in
    let first = byte_still x byte rest.before in
    record { before = first.before; house = rest.house ∙ first.house }

-- so the tanks that they leave mean what they meant
pub eats_still : {s : Tanks} {stand : Stand} {memory buffer input after out : List ℕ} {r : Eaten} → Eats s stand memory buffer input r after out → r.stand.at ≡ 0 → meaning r.tanks ≡ meaning s
eats_still {s} {stand} {memory} {buffer} {input} e z =
    ap (λ (y : Course). y.house) e.is ∙ (bytes_still (course_of s stand memory buffer) input (sym (ap (λ (y : Course). y.waits.at) e.is) ∙ z)).house
