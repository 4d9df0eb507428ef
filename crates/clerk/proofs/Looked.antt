-- A question, a list or a strip of one tank that is answered from the parts of the state performs the call that asks for it.
use Prim.Native.Nat.{ℕ}
use mathlib.Core.Bool.{Bool, true, false, cond}
use mathlib.Core.List.{List, []}
use mathlib.Core.Path.{◌≡◌, refl, sym, ap, subst, ◌∙◌}
use lib.Dec.{ltb, eqb}
use lib.ListN.{get_or}
use Rattle.questions.specs.declared.Asked.{Asked}
use Rattle.questions.specs.declared.Shown.{Shown}
use Rattle.questions.specs.declared.Told.{Told}
use Rattle.questions.specs.Questions.{set_of, shared_of, extent_of, value_at, styles_at, style_at, stretch_at, styles_for_insert, style_for_insert, range_contains_key, range_has_key_value, styles_of_range}
use Rattle.lists.specs.Lists.{range_list, whole_list, range_needed, whole_needed, range_number, whole_number}
use Rattle.lists.specs.Anchors.{anchors_number}
use Rattle.tank.specs.Rules.{View}
use Rattle.tanks.specs.declared.Head.{Head}
use Rattle.tanks.specs.declared.Run.{Run}
use Rattle.tanks.specs.declared.Table.{Table}
use Rattle.tanks.specs.declared.Tanks.{Tanks}
use Rattle.tanks.specs.Promises.{place_of}
use Rattle.tanks.specs.House.{no_tank, shown_at}
use Rattle.tanks.specs.Looks.{shown_in}
use Rattle.tanks.specs.Pool.{no_table, meaning, Sound}
use Rattle.ask.specs.Asks.{ask_at, no_list}
use Rattle.ask.specs.Parts.{ask_in}
use Rattle.ask.proofs.Standing.{asked_there}
use Rattle.strip.specs.declared.legend.Legend.{Legend}
use Rattle.strip.specs.Strip.{strip, strip_number}
use Rattle.script.specs.declared.Both.{Both}
use Rattle.script.specs.declared.Call.{Call}
use Rattle.script.specs.declared.Change.{Change}
use Rattle.script.specs.declared.Listing.{Listing}
use Rattle.script.specs.declared.Op.{Op}
use Rattle.script.specs.declared.Question.{Question}
use Rattle.script.specs.Args.{number_at, key_at}
use Rattle.styles.specs.declared.Party.{Party}
use Rattle.styles.specs.declared.Party.TheVariants.{Plant}
use Rattle.answers.specs.Waiting.{Pieces, Adds}
use Rattle.answers.specs.Replies.{refused_says, or_refused, told_says, shown_says, asked_says, set_says, shared_says, extent_says, needed_says, list_says, strip_says}
use Rattle.answers.proofs.Laws.{adds_as}
use Rattle.clerk.specs.declared.Kind.{Kind}
use Rattle.clerk.specs.declared.Look.{Look}
use Rattle.clerk.specs.declared.Side.{Side}
use Rattle.clerk.specs.Calls.{tank_for, start_in, end_in, answer_says, listing_says, whole_says, all_anchors_say, look_says, whole_look, list_look_says, strip_look, looks_say, question_kind, listing_kind, change_kind, both_kind, kind_of}
use Rattle.clerk.specs.Desk.{Settled, strip_for, both_house, both_side, both_says, after_op, side_after, says_of, Performs}

-- of `looked`
pub as_look : (hs : List Head) (pool : List Run) (table : Table) (who : Party) (c : Call) {d out : List ℕ} {at k : ℕ} {q p : Question} → q ≡ p → Adds d at (look_says p hs pool table who c) k out → Adds d at (look_says q hs pool table who c) k out
as_look hs pool table who c {d} {out} {at} {k} e = subst (λ (x : Question). Adds d at (look_says x hs pool table who c) k out) (sym e)

pub as_list_look : (hs : List Head) (pool : List Run) (table : Table) (who : Party) (c : Call) {d out : List ℕ} {at k : ℕ} {l m : Listing} → l ≡ m → Adds d at (list_look_says m hs pool table who c) k out → Adds d at (list_look_says l hs pool table who c) k out
as_list_look hs pool table who c {d} {out} {at} {k} e = subst (λ (x : Listing). Adds d at (list_look_says x hs pool table who c) k out) (sym e)

pub as_looks : (hs : List Head) (pool : List Run) (table : Table) (legend : Legend) (who : Party) (c : Call) {d out : List ℕ} {at k : ℕ} {l m : Look} → l ≡ m → Adds d at (looks_say m hs pool table legend who c) k out
    → Adds d at (looks_say l hs pool table legend who c) k out
as_looks hs pool table legend who c {d} {out} {at} {k} e = subst (λ (x : Look). Adds d at (looks_say x hs pool table legend who c) k out) (sym e)

-- where a call is a question, a list or a strip of one tank, its answer from the parts at the tank's place performs it as one of its op
abbrev Looked : Tanks → ℕ → Side → Call → List ℕ → List ℕ → ℕ → List ℕ → Op → Kind → Type 0
Looked s u side c body d at out op Kind.Asks = Unit
Looked s u side c body d at out op (Kind.Looks q) =
    (k : ℕ) → Adds d at (looks_say q s.heads s.pool (get_or s.tables u no_table) side.legend side.party c) k out → Performs op s side c body d at (record { tanks = s; side = side; at = k }) out
Looked s u side c body d at out op (Kind.Edits e) = Unit
Looked s u side c body d at out op Kind.Other = Unit

-- what a strip says where there is no such tank
by_refusal : (t k room : ℕ) (cells : List ℕ) → strip_says (strip_number t k room) cells ≡ cond (no_tank t) (refused_says 1) (strip_says (strip_number t k room) cells)
unfolding strip_number
by_refusal t k room cells = go (no_tank t) (cond (eqb k 0) 3 (cond (ltb room 96) 11 0))
  where
    go : (b : Bool) (n : ℕ) → strip_says (cond b 1 n) cells ≡ cond b (refused_says 1) (strip_says (cond b 1 n) cells)
    go true n = refl
    go false n = refl

module _ (s : Tanks) (u : ℕ) (side : Side) (c : Call) (body d : List ℕ) (at : ℕ) (out : List ℕ) (place : u ≡ place_of (tank_for c)) (ok : Sound s) (kept : Settled side) where
  there : {R : Type 0} (refused : R) (asks : View → R)
      → ask_in s.heads s.pool (get_or s.tables u no_table) (tank_for c) side.party refused asks ≡ ask_at (meaning s) (tank_for c) side.party refused asks
  there refused asks = asked_there s (tank_for c) u place side.party refused asks

  answered : (q : Question) {says : Pieces} → says ≡ answer_says q (meaning s) side.party c → (k : ℕ) → Adds d at says k out
      → Performs (Op.Question q) s side c body d at (record { tanks = s; side = side; at = k }) out
  unfolding after_op side_after says_of
  answered q e k says = record { sound = ok; settled = kept; is = refl; keeps = refl; answer = adds_as e says }

  question_looks : (q : Question) → Looked s u side c body d at out (Op.Question q) (question_kind q)
  unfolding question_kind looks_say look_says answer_says
  question_looks Question.Length = tt
  question_looks Question.Touched = tt
  question_looks Question.Runs = tt
  question_looks Question.Value = answered Question.Value (ap shown_says (there (Shown.Refused 1) (value_at (number_at c 1) (key_at c 2))))
  question_looks Question.HasKey = answered Question.HasKey (ap told_says (there (Told.Refused 1) (range_contains_key (start_in c) (end_in c) (key_at c 3))))
  question_looks Question.AllValue = answered Question.AllValue (ap told_says (there (Told.Refused 1) (range_has_key_value (start_in c) (end_in c) (key_at c 3) c.value)))
  question_looks Question.Same = answered Question.Same (ap shared_says (there (shared_of 1 false []) (styles_of_range (start_in c) (end_in c))))
  question_looks Question.Marks = answered Question.Marks (ap set_says (there (set_of 1 []) (styles_at (number_at c 1))))
  question_looks Question.Inherit = answered Question.Inherit (ap set_says (there (set_of 1 []) (styles_for_insert (number_at c 1))))
  question_looks Question.Mark = answered Question.Mark (ap asked_says (there (Asked.Refused 1) (style_at (number_at c 1) (number_at c 2))))
  question_looks Question.Inherited = answered Question.Inherited (ap asked_says (there (Asked.Refused 1) (style_for_insert (number_at c 1) (number_at c 2))))
  question_looks Question.Find = answered Question.Find (ap extent_says (there (extent_of 1 0 0) (stretch_at (number_at c 1))))
  question_looks Question.Propose = tt

  listed : (l : Listing) {says : Pieces} → says ≡ listing_says l (meaning s) side.party c → (k : ℕ) → Adds d at says k out
      → Performs (Op.Listing l) s side c body d at (record { tanks = s; side = side; at = k }) out
  unfolding after_op side_after says_of
  listed l e k says = record { sound = ok; settled = kept; is = refl; keeps = refl; answer = adds_as e says }

  listing_looks : (l : Listing) → Looked s u side c body d at out (Op.Listing l) (listing_kind l)
  unfolding listing_kind looks_say list_look_says listing_says whole_look whole_says
  listing_looks Listing.Stretches = listed Listing.Stretches (there (refused_says 1) (λ v. or_refused (range_number (start_in c) (end_in c) (number_at c 3) v) (list_says (tank_for c) (range_list (start_in c) (end_in c) v))))
  listing_looks Listing.StretchesNeeded = listed Listing.StretchesNeeded (ap needed_says (there no_list (range_needed (start_in c) (end_in c))))
  listing_looks Listing.Whole = listed Listing.Whole (there (refused_says 1) (λ v. or_refused (whole_number (number_at c 1) v) (list_says (tank_for c) (whole_list v))))
  listing_looks Listing.WholeNeeded = listed Listing.WholeNeeded (ap needed_says (there no_list whole_needed))
  listing_looks Listing.Anchors = listed Listing.Anchors (there (refused_says 1) (λ v. or_refused (anchors_number (number_at c 1) v) (all_anchors_say v)))
  listing_looks Listing.Save = tt
  listing_looks Listing.SaveNeeded = tt

  -- a strip is the plant's, whoever asks
  strip_there : strip_look s.heads s.pool (get_or s.tables u no_table) side.legend c ≡ strip_for (meaning s) side.legend c
  unfolding strip_look
  strip_there =
      let n = strip_number (tank_for c) (number_at c 2) (number_at c 3) in
      let cells : View → List ℕ = λ v. strip v side.legend.keys side.legend.letters (number_at c 1) (number_at c 2) in
      by_refusal (tank_for c) (number_at c 2) (number_at c 3) (cells (shown_in s.heads s.pool (get_or s.tables u no_table) (tank_for c) Plant))
      ∙ asked_there s (tank_for c) u place Plant (refused_says 1) (λ v. strip_says n (cells v))
      ∙ sym (by_refusal (tank_for c) (number_at c 2) (number_at c 3) (cells (shown_at (meaning s) Plant (tank_for c))))

  both_looks : (b : Both) → Looked s u side c body d at out (Op.Both b) (both_kind b)
  unfolding both_kind looks_say after_op side_after says_of both_house both_side both_says
  both_looks Both.OpenSet = tt
  both_looks Both.Plan = tt
  both_looks Both.Strip = λ k says. record { sound = ok; settled = kept; is = refl; keeps = refl; answer = adds_as strip_there says }

  -- no change is one
  change_looks : (e : Change) → Looked s u side c body d at out (Op.Change e) (change_kind e side.party c)
  unfolding change_kind
  change_looks Change.Open = tt
  change_looks Change.Annotate = tt
  change_looks Change.Insert = tt
  change_looks Change.Delete = tt
  change_looks Change.Remove = tt
  change_looks Change.Age = tt

  looks : (op : Op) → Looked s u side c body d at out op (kind_of op side.party c)
  unfolding kind_of
  looks Op.Nothing = tt
  looks (Op.Change e) = change_looks e
  looks (Op.Question q) = question_looks q
  looks (Op.Listing l) = listing_looks l
  looks (Op.Text x) = tt
  looks (Op.Desk x) = tt
  looks (Op.Both b) = both_looks b

  pub looked : {q : Look} → kind_of c.op side.party c ≡ Kind.Looks q → (k : ℕ) → Adds d at (looks_say q s.heads s.pool (get_or s.tables u no_table) side.legend side.party c) k out
      → Performs c.op s side c body d at (record { tanks = s; side = side; at = k }) out
  looked e = subst (Looked s u side c body d at out c.op) e (looks c.op)
