-- Document 01, "What a tank means" and refusals 3 to 8, 14, 16 and 18: a tank by its positions.
-- A set of marks is a list of them, sorted by identity. Nothing here knows how a tank is stored.
use Rattle.std.specs.Prelude.{ℕ, zero, suc, ◌+◌, ◌-◌, max, Bool, true, false, cond, ◌&&◌, ◌||◌, not, List, [], ◌∷◌, ltb, leb, eqb, length}
use Rattle.runs.specs.Positions.{altered_at, deleted_at, inserted_at, any_at, stretch_count, stretch_to}
use Rattle.richtext.specs.declared.ExpandType.TheVariants.{Before, After, Both, None}
use Rattle.richtext.specs.Flags.{new_byte, type_of}
use Rattle.richtext.specs.Types.{retired}
use Rattle.styles.specs.declared.Identity.{Identity}
use Rattle.styles.specs.declared.Mark.{Mark}
use Rattle.styles.specs.declared.Party.{Party}
use Rattle.styles.specs.declared.Party.TheVariants.{Plant, Lab}
use Rattle.styles.specs.Order.{id_of, same_id}
use Rattle.styles.specs.Values.{value_nan}
use Rattle.styles.specs.Marks.{member, insert_mark, remove_mark, either_of, common, same_marks, same_content, of_party}

-- a length, touched or not, and the marks at each position. No rule asks for those from the length on; in a tank reached from a fresh one
-- there are none
pub record View : Type 0 where
  pub length : ℕ
  pub touched : Bool
  pub at : ℕ → List Mark

-- ---- A fresh tank has length T, no marks, untouched
-- T = 2^62 - 1
abbrev pub fresh_length : ℕ
fresh_length = 4611686018427387903

-- the fresh tank
unfoldable pub fresh_view : View
fresh_view = record { length = fresh_length; touched = false; at = λ p. [] }

-- ---- Annotate a .. b: every position of it gains the mark, the tank becomes touched
unfoldable pub after_annotate : ℕ → ℕ → Mark → View → View
after_annotate a b m v =
    record { length = v.length; touched = true; at = altered_at a b (insert_mark m) v.at }

-- ---- Insert len at pos
-- at 0 and at the length the empty set; otherwise the marks common to positions pos - 1 and pos, by identity
unfoldable pub inherited : ℕ → View → List Mark
inherited pos v = cond (eqb pos 0) [] (cond (eqb pos v.length) [] (common (v.at (pos - 1)) (v.at pos)))

-- the new positions carry it, earlier ones keep theirs, later ones move by len; untouched: nothing changes
unfoldable pub after_insert : ℕ → ℕ → View → View
after_insert pos len v =
    cond v.touched
    (record {
      length = v.length + len;
      touched = true;
      at = inserted_at pos len (inherited pos v) v.at;
    })
    v

-- the answer is that set; untouched: the empty one
unfoldable pub for_insert : ℕ → View → List Mark
for_insert pos v = cond v.touched (inherited pos v) []

-- ---- Delete a .. b: those positions go and later ones move down; untouched: nothing changes
unfoldable pub after_delete : ℕ → ℕ → View → View
after_delete a b v =
    cond v.touched
    (record {
      length = v.length - (b - a);
      touched = true;
      at = deleted_at a b v.at;
    })
    v

-- ---- Remove backward of an identity from last
-- the answer: the first position of the longest stretch ending at last whose positions all carry it, or last + 1
unfoldable pub back_from : Identity → ℕ → View → ℕ
back_from id last v = stretch_to (λ p. member id (v.at p)) (last + 1)

-- positions a .. b lose an identity
unfoldable pub stripped : Identity → ℕ → ℕ → View → View
stripped id a b v =
    record { length = v.length; touched = v.touched; at = altered_at a b (remove_mark id) v.at }

-- that stretch loses it; positions after last keep it
unfoldable pub after_remove : Identity → ℕ → View → View
after_remove id last v = stripped id (back_from id last v) (last + 1) v

-- ---- Runs: maximal stretches of neighbouring positions with equal sets
-- position p and the next have equal sets
abbrev pub alike : (ℕ → List Mark) → ℕ → Bool
alike at p = same_marks (at p) (at (suc p))

-- how many stretches the positions below the length have
abbrev pub runs_held : View → ℕ
runs_held v = stretch_count (alike v.at) v.length

-- ---- The marks that a tank carries: those of any position
-- the marks of the first n positions together
unfoldable pub gathered : (ℕ → List Mark) → ℕ → List Mark
gathered at zero = []
gathered at (suc n) = either_of (at n) (gathered at n)

-- those of all positions below the length
abbrev pub carried : View → List Mark
carried v = gathered v.at v.length

-- ---- The edits as one type
-- each with the arguments of its call. Insertions and deletions name the party that tries them; of a mark and of an identity it is their own
pub data Edit : Type 0 where
  annotating : ℕ → ℕ → Mark → Edit
  inserting : Party → ℕ → ℕ → Edit
  deleting : Party → ℕ → ℕ → Edit
  removing : Identity → ℕ → Edit

-- what an accepted edit leaves
unfoldable pub after : Edit → View → View
after (annotating a b m) v = after_annotate a b m v
after (inserting who pos len) v = after_insert pos len v
after (deleting who a b) v = after_delete a b v
after (removing id last) v = after_remove id last v

-- ---- Numbers: 0 for accepted, else a refusal's
-- what is given where the number is 0, and what stands for it beside a refusal
abbrev pub when_accepted : {A : Type 0} → ℕ → A → A → A
when_accepted number given refused = cond (eqb number 0) given refused

-- the first number, or the second where the first is 0
abbrev pub first_refusal : ℕ → ℕ → ℕ
first_refusal n m = when_accepted n m n

-- ---- Parties
-- the laboratory
abbrev pub is_lab : Party → Bool
is_lab Plant = false
is_lab Lab = true

-- the other party
abbrev pub other_of : Party → Party
other_of Plant = Lab
other_of Lab = Plant

-- what a party is shown: its own marks at each position. Length and touched are both parties'
unfoldable pub shown_to : Party → View → View
shown_to who v = record { length = v.length; touched = v.touched; at = λ p. of_party who (v.at p) }

-- who makes an edit
abbrev pub made_by : Edit → Party
made_by (annotating a b m) = m.party
made_by (inserting who pos len) = who
made_by (deleting who a b) = who
made_by (removing id last) = id.party

-- ---- Refusals
-- 16: the lab tries to insert or to delete
unfoldable pub barred : Edit → Bool
barred (annotating a b m) = false
barred (inserting who pos len) = is_lab who
barred (deleting who a b) = is_lab who
barred (removing id last) = false

-- 3: an empty range, or inserted length 0
unfoldable pub empty : Edit → Bool
empty (annotating a b m) = leb b a
empty (inserting who pos len) = eqb len 0
empty (deleting who a b) = leb b a
empty (removing id last) = false

-- 4: range end over the length; insert position over it; last at or over it
unfoldable pub over : Edit → View → Bool
over (annotating a b m) v = ltb v.length b
over (inserting who pos len) v = ltb v.length pos
over (deleting who a b) v = ltb v.length b
over (removing id last) v = leb v.length last

-- the largest length, 2^63 - 1
abbrev pub largest : ℕ
largest = 9223372036854775807

-- 5: touched tank, insert would pass the largest length
unfoldable pub long : Edit → View → Bool
long (annotating a b m) v = false
long (inserting who pos len) v = v.touched && ltb largest (v.length + len)
long (deleting who a b) v = false
long (removing id last) v = false

-- the flag byte is one that a type makes: None's, Before's, After's or Both's
unfoldable pub made_flag : ℕ → Bool
made_flag f = eqb f (new_byte None) || (eqb f (new_byte Before) || (eqb f (new_byte After) || eqb f (new_byte Both)))

-- the type that the flag byte has is retired (change request 13)
unfoldable pub retired_flag : ℕ → Bool
retired_flag f = retired (type_of f)

-- what a mark is refused by whatever the tank carries: 6, the value is NaN; 14, an odd flag byte (change request 7); 18, a retired one; 0 for
-- none. A mark that a tank carries may have any byte
unfoldable pub mark_number : Mark → ℕ
mark_number m = cond (value_nan m.value) 6 (cond (made_flag m.flags) (cond (retired_flag m.flags) 18 0) 14)

-- 6, 14 and 18: only an annotate hands a mark in
unfoldable pub own_number : Edit → ℕ
own_number (annotating a b m) = mark_number m
own_number (inserting who pos len) = 0
own_number (deleting who a b) = 0
own_number (removing id last) = 0

-- the set has the mark's identity with another value, flag byte or counter
unfoldable pub clash : Mark → List Mark → Bool
clash m [] = false
clash m (x ∷ xs) = cond (same_id (id_of m) (id_of x)) (not (same_content m x)) (clash m xs)

-- 7: identity carried in this tank, at some position, with another value, flag byte or counter
unfoldable pub clashes : Edit → View → Bool
clashes (annotating a b m) v = any_at (λ p. clash m (v.at p)) 0 v.length
clashes (inserting who pos len) v = false
clashes (deleting who a b) v = false
clashes (removing id last) v = false

-- how many of a set's marks are a party's
abbrev pub marks_of : Party → List Mark → ℕ
marks_of who ms = length (of_party who ms)

-- what the marks of both are taken to need: the plant is assured 32, the lab 16
unfoldable pub needs : List Mark → ℕ
needs ms = max (marks_of Plant ms) 32 + max (marks_of Lab ms) 16

-- with this mark more they would pass 64
unfoldable pub crowded : Mark → List Mark → Bool
crowded m ms = ltb 64 (needs (insert_mark m ms))

-- 8: a mark that is not carried would be added, and there is no room for it
unfoldable pub full : Edit → View → Bool
full (annotating a b m) v = not (member (id_of m) (carried v)) && crowded m (carried v)
full (inserting who pos len) v = false
full (deleting who a b) v = false
full (removing id last) v = false

-- the first that applies of 16, 3, 4, 5, 6, 14, 18, 7 and 8, in this order; 0 for none
unfoldable pub refusal : Edit → View → ℕ
refusal e v =
    cond (barred e) 16
    (cond (empty e) 3
    (cond (over e v) 4
    (cond (long e v) 5
    (first_refusal (own_number e)
    (cond (clashes e v) 7
    (cond (full e v) 8 0))))))

-- 17, which the tank's share decides: an edit of the lab's that raises the runs may not leave the tank over its share; `before` and `after`
-- are the runs held
unfoldable pub passes_share : Party → ℕ → ℕ → ℕ → Bool
passes_share who share before after = is_lab who && (ltb before after && ltb share after)

-- ---- A call's number, and what stands beside it
-- the tank after a call: a refused one leaves it as it was
abbrev pub after_call : Edit → View → View
after_call e v = when_accepted (refusal e v) (after e v) v

-- an insertion's set, as its party is shown it; refused: the empty one
abbrev pub inserted_set : Party → ℕ → ℕ → View → List Mark
inserted_set who pos len v = when_accepted (refusal (inserting who pos len) v) (for_insert pos (shown_to who v)) []

-- a removal's first position; refused: 0
abbrev pub removed_first : Identity → ℕ → View → ℕ
removed_first id last v = when_accepted (refusal (removing id last) v) (back_from id last v) 0

-- ---- A range that is asked about
-- an empty one is refused nothing; 4: range end over the length; then what else the question is refused by
abbrev pub asked_range : ℕ → ℕ → ℕ → View → ℕ
asked_range a b later v = cond (leb b a) 0 (cond (ltb v.length b) 4 later)
