-- A call is performed as one of its op.
use mathlib.Core.Path.{◌≡◌, refl, sym, ap, subst, ◌∙◌}
use mathlib.Core.Bool.{Bool, true, false, false≢true, true≢false}
use mathlib.Core.List.{List, []}
use Prim.Native.Nat.{ℕ}
use Rattle.styles.specs.declared.Party.{Party}
use Rattle.styles.specs.declared.Party.TheVariants.{Plant}
use Rattle.tanks.specs.declared.Edit.{Edit}
use Rattle.tanks.specs.declared.Tanks.{Tanks}
use Rattle.tanks.specs.House.{House}
use Rattle.tanks.specs.Pool.{meaning, Sound}
use Rattle.script.specs.declared.Both.{Both}
use Rattle.script.specs.declared.Call.{Call}
use Rattle.script.specs.declared.Change.{Change}
use Rattle.script.specs.declared.Desk.{Desk}
use Rattle.script.specs.declared.Listing.{Listing}
use Rattle.script.specs.declared.Op.{Op}
use Rattle.script.specs.declared.Question.{Question}
use Rattle.script.specs.declared.Text.{Text}
use Rattle.answers.specs.Waiting.{Pieces, Adds}
use Rattle.answers.proofs.Laws.{no_piece}
use Rattle.clerk.specs.declared.Done.{Done}
use Rattle.clerk.specs.declared.Kind.{Kind}
use Rattle.clerk.specs.declared.Look.{Look}
use Rattle.clerk.specs.declared.Moved.{Moved}
use Rattle.clerk.specs.declared.Noted.{Noted}
use Rattle.clerk.specs.declared.Side.{Side}
use Rattle.clerk.specs.Calls.{changed, change_says, answer_says, listing_says, question_kind, listing_kind, change_kind, both_kind, kind_of, asking_says, Changes}
use Rattle.clerk.specs.Desk.{Settled, text_house, text_side, text_says, desk_side, desk_says, both_house, both_side, both_says, after_op, side_after, says_of, Notes, Moves, Performs}

-- ---- What a call is
-- a question
abbrev is_asks : Kind → Bool
is_asks Kind.Asks = true
is_asks (Kind.Looks q) = false
is_asks (Kind.Edits x) = false
is_asks Kind.Other = false

-- an edit of one tank
abbrev is_edits : Kind → Bool
is_edits Kind.Asks = false
is_edits (Kind.Looks q) = false
is_edits (Kind.Edits x) = true
is_edits Kind.Other = false

-- a call of neither kind
abbrev is_other : Kind → Bool
is_other Kind.Asks = false
is_other (Kind.Looks q) = false
is_other (Kind.Edits x) = false
is_other Kind.Other = true

-- no question is one
question_other_not : (q : Question) → is_other (question_kind q) ≡ false
unfolding question_kind
question_other_not Question.Length = refl
question_other_not Question.Touched = refl
question_other_not Question.Runs = refl
question_other_not Question.Value = refl
question_other_not Question.HasKey = refl
question_other_not Question.AllValue = refl
question_other_not Question.Same = refl
question_other_not Question.Marks = refl
question_other_not Question.Inherit = refl
question_other_not Question.Mark = refl
question_other_not Question.Inherited = refl
question_other_not Question.Find = refl
question_other_not Question.Propose = refl

-- nor is a list
listing_other_not : (l : Listing) → is_other (listing_kind l) ≡ false
unfolding listing_kind
listing_other_not Listing.Stretches = refl
listing_other_not Listing.StretchesNeeded = refl
listing_other_not Listing.Whole = refl
listing_other_not Listing.WholeNeeded = refl
listing_other_not Listing.Anchors = refl
listing_other_not Listing.Save = refl
listing_other_not Listing.SaveNeeded = refl

-- no change is a question
change_asks_not : (e : Change) (who : Party) (c : Call) → is_asks (change_kind e who c) ≡ false
unfolding change_kind
change_asks_not Change.Open who c = refl
change_asks_not Change.Annotate who c = refl
change_asks_not Change.Insert who c = refl
change_asks_not Change.Delete who c = refl
change_asks_not Change.Remove who c = refl
change_asks_not Change.Age who c = refl

-- nor is what has to do with the tanks and with what is kept
both_asks_not : (b : Both) → is_asks (both_kind b) ≡ false
unfolding both_kind
both_asks_not Both.OpenSet = refl
both_asks_not Both.Plan = refl
both_asks_not Both.Strip = refl

-- ---- The arms of each group
-- of `change`
pub as_change : {s : Tanks} {who : Party} {c : Call} {d out : List ℕ} {at : ℕ} {r : Done} {e f : Change} → e ≡ f → Changes f s who c d at r out → Changes e s who c d at r out
as_change {s} {who} {c} {d} {out} {at} {r} e p = subst (λ (o : Change). Changes o s who c d at r out) (sym e) p

-- an opening is the same whoever calls for it
pub any_opens : {s : Tanks} {who : Party} {c : Call} {d out : List ℕ} {at : ℕ} {r : Done} → Changes Change.Open s Plant c d at r out → Changes Change.Open s who c d at r out
unfolding changed change_says
any_opens p = record { sound = p.sound; is = p.is; answer = p.answer }

module _ (s : Tanks) (who : Party) (c : Call) {d out : List ℕ} {at : ℕ} where
  -- of `answer`
  pub as_answer : {k : ℕ} {q p : Question} → q ≡ p → Adds d at (answer_says p (meaning s) who c) k out → Adds d at (answer_says q (meaning s) who c) k out
  as_answer {k} e p = subst (λ (o : Question). Adds d at (answer_says o (meaning s) who c) k out) (sym e) p

  -- of `listed`
  pub as_listed : {k : ℕ} {l m : Listing} → l ≡ m → Adds d at (listing_says m (meaning s) who c) k out → Adds d at (listing_says l (meaning s) who c) k out
  as_listed {k} e p = subst (λ (o : Listing). Adds d at (listing_says o (meaning s) who c) k out) (sym e) p

-- of `told`
pub as_told : (s : Tanks) (who : Party) (c : Call) {d out : List ℕ} {at k : ℕ} {op o : Op} → op ≡ o → Adds d at (asking_says o (meaning s) who c) k out → Adds d at (asking_says op (meaning s) who c) k out
as_told s who c {d} {out} {at} {k} e p = subst (λ (o : Op). Adds d at (asking_says o (meaning s) who c) k out) (sym e) p

-- and where nothing is asked
pub untold : (s : Tanks) (who : Party) (c : Call) {d : List ℕ} {at : ℕ} {op o : Op} → op ≡ o → asking_says o (meaning s) who c ≡ [] → Adds d at (asking_says op (meaning s) who c) at d
untold s who c {d} {at} {op} {o} e none = as_told s who c e (subst (λ (p : Pieces). Adds d at p at d) (sym none) (no_piece d at))

-- of `take_text`
pub as_text : (s : Tanks) (side : Side) (c : Call) (body : List ℕ) {d out : List ℕ} {at : ℕ} {r : Moved} {x y : Text} → x ≡ y
    → Moves (text_house y (meaning s) side c body) (text_side y (meaning s) side c body) (text_says y (meaning s) side c body) d at r out
    → Moves (text_house x (meaning s) side c body) (text_side x (meaning s) side c body) (text_says x (meaning s) side c body) d at r out
as_text s side c body {d} {out} {at} {r} e p = subst (λ (o : Text). Moves (text_house o (meaning s) side c body) (text_side o (meaning s) side c body) (text_says o (meaning s) side c body) d at r out) (sym e) p

-- of `at_desk`
pub as_desk : (side : Side) (c : Call) {d out : List ℕ} {at : ℕ} {r : Noted} {k j : Desk} → k ≡ j → Notes (desk_side j side c) (desk_says j side c) d at r out → Notes (desk_side k side c) (desk_says k side c) d at r out
as_desk side c {d} {out} {at} {r} e p = subst (λ (o : Desk). Notes (desk_side o side c) (desk_says o side c) d at r out) (sym e) p

-- of `on_both`
pub as_both : (s : Tanks) (side : Side) (c : Call) {d out : List ℕ} {at : ℕ} {r : Moved} {b a : Both} → b ≡ a
    → Moves (both_house a (meaning s) side c) (both_side a (meaning s) side c) (both_says a (meaning s) side c) d at r out
    → Moves (both_house b (meaning s) side c) (both_side b (meaning s) side c) (both_says b (meaning s) side c) d at r out
as_both s side c {d} {out} {at} {r} e p = subst (λ (o : Both). Moves (both_house o (meaning s) side c) (both_side o (meaning s) side c) (both_says o (meaning s) side c) d at r out) (sym e) p

-- ---- The groups
module _ (s : Tanks) (side : Side) (c : Call) (body : List ℕ) {d out : List ℕ} {at : ℕ} where
  as_op : {r : Moved} {op : Op} → c.op ≡ op → Performs op s side c body d at r out → Performs c.op s side c body d at r out
  as_op {r} e p = subst (λ (o : Op). Performs o s side c body d at r out) (sym e) p

  -- a change leaves what is kept as it was
  pub changes : {r : Done} {e : Change} → c.op ≡ Op.Change e → Settled side → Changes e s side.party c d at r out → Performs c.op s side c body d at (record { tanks = r.tanks; side = side; at = r.at }) out
  unfolding after_op side_after says_of
  changes e kept p = as_op e (record { sound = p.sound; settled = kept; is = p.is; keeps = refl; answer = p.answer })

  -- what only asks leaves all as it was
  only_asks : {k : ℕ} (op : Op) → is_asks (kind_of op side.party c) ≡ true → Sound s → Settled side → Adds d at (asking_says op (meaning s) side.party c) k out → Performs op s side c body d at (record { tanks = s; side = side; at = k }) out
  unfolding after_op side_after says_of kind_of asking_says
  only_asks Op.Nothing e ok kept says = absurd (false≢true e)
  only_asks (Op.Change x) e ok kept says = absurd (false≢true (sym (change_asks_not x side.party c) ∙ e))
  only_asks (Op.Question q) e ok kept says = record { sound = ok; settled = kept; is = refl; keeps = refl; answer = says }
  only_asks (Op.Listing l) e ok kept says = record { sound = ok; settled = kept; is = refl; keeps = refl; answer = says }
  only_asks (Op.Text x) e ok kept says = absurd (false≢true e)
  only_asks (Op.Desk x) e ok kept says = absurd (false≢true e)
  only_asks (Op.Both b) e ok kept says = absurd (false≢true (sym (both_asks_not b) ∙ e))

  pub told : {k : ℕ} → kind_of c.op side.party c ≡ Kind.Asks → Sound s → Settled side → Adds d at (asking_says c.op (meaning s) side.party c) k out → Performs c.op s side c body d at (record { tanks = s; side = side; at = k }) out
  told e = only_asks c.op (ap is_asks e)

  -- a text
  pub texted : {r : Moved} {x : Text} → c.op ≡ Op.Text x → Moves (text_house x (meaning s) side c body) (text_side x (meaning s) side c body) (text_says x (meaning s) side c body) d at r out → Performs c.op s side c body d at r out
  unfolding after_op side_after says_of
  texted e p = as_op e p

  -- what has to do with what is kept alone leaves the tanks as they were
  pub noted : {r : Noted} {k : Desk} → c.op ≡ Op.Desk k → Sound s → Notes (desk_side k side c) (desk_says k side c) d at r out → Performs c.op s side c body d at (record { tanks = s; side = r.side; at = r.at }) out
  unfolding after_op side_after says_of
  noted e ok p = as_op e (record { sound = ok; settled = p.settled; is = refl; keeps = p.is; answer = p.answer })

  -- what has to do with both
  pub both : {r : Moved} {b : Both} → c.op ≡ Op.Both b → Moves (both_house b (meaning s) side c) (both_side b (meaning s) side c) (both_says b (meaning s) side c) d at r out → Performs c.op s side c body d at r out
  unfolding after_op side_after says_of
  both e p = as_op e p

-- what a call hands back, by its parts
pub as_moved : {house : House} {side : Side} {says : Pieces} {d out : List ℕ} {at : ℕ} {r q : Moved} → r ≡ q → Moves house side says d at q out → Moves house side says d at r out
as_moved {house} {side} {says} {d} {out} {at} e p = subst (λ (x : Moved). Moves house side says d at x out) (sym e) p

-- where no op is named nothing is done, and nothing said
pub none : (s : Tanks) (side : Side) (c : Call) (body d : List ℕ) (at : ℕ) → c.op ≡ Op.Nothing → Sound s → Settled side → Performs c.op s side c body d at (record { tanks = s; side = side; at = at }) d
unfolding after_op side_after says_of
none s side c body d at e ok kept = as_op s side c body e (record { sound = ok; settled = kept; is = refl; keeps = refl; answer = no_piece d at })

-- ---- A call that is neither a question nor an edit
module _ (who : Party) (c : Call) {op : Op} (other : kind_of op who c ≡ Kind.Other) where
  pub no_question : {q : Question} → op ≡ Op.Question q → {P : Type 0} → P
  unfolding kind_of
  no_question {q} e = absurd (true≢false (sym (ap is_other other) ∙ ap (λ (o : Op). is_other (kind_of o who c)) e ∙ question_other_not q))

  pub no_listing : {l : Listing} → op ≡ Op.Listing l → {P : Type 0} → P
  unfolding kind_of
  no_listing {l} e = absurd (true≢false (sym (ap is_other other) ∙ ap (λ (o : Op). is_other (kind_of o who c)) e ∙ listing_other_not l))

  -- is, where it changes the tanks, another change
  pub other_change : {e : Change} → op ≡ Op.Change e → change_kind e who c ≡ Kind.Other
  unfolding kind_of
  other_change e = sym (ap (λ (o : Op). kind_of o who c) e) ∙ other

  -- and where it has to do with both, no strip
  pub other_both : {b : Both} → op ≡ Op.Both b → both_kind b ≡ Kind.Other
  unfolding kind_of
  other_both e = sym (ap (λ (o : Op). kind_of o who c) e) ∙ other

pub no_strip : {b : Both} → b ≡ Both.Strip → both_kind b ≡ Kind.Other → {P : Type 0} → P
unfolding both_kind
no_strip e other = absurd (true≢false (sym (ap is_other other) ∙ ap (λ (b : Both). is_other (both_kind b)) e))

-- a question that is asked of the state is none of those that are asked of one tank
pub state_question : (who : Party) (c : Call) {op : Op} {q : Question} → kind_of op who c ≡ Kind.Asks → op ≡ Op.Question q → question_kind q ≡ Kind.Asks
unfolding kind_of
state_question who c asks e = sym (ap (λ (o : Op). kind_of o who c) e) ∙ asks

pub no_look : {q p : Question} {x : Look} → q ≡ p → question_kind p ≡ Kind.Looks x → question_kind q ≡ Kind.Asks → {P : Type 0} → P
no_look e look asks = absurd (true≢false (sym (ap is_asks asks) ∙ ap is_asks (ap question_kind e ∙ look)))

-- nor is such a list
pub state_listing : (who : Party) (c : Call) {op : Op} {l : Listing} → kind_of op who c ≡ Kind.Asks → op ≡ Op.Listing l → listing_kind l ≡ Kind.Asks
unfolding kind_of
state_listing who c asks e = sym (ap (λ (o : Op). kind_of o who c) e) ∙ asks

pub no_list_look : {l m : Listing} {x : Look} → l ≡ m → listing_kind m ≡ Kind.Looks x → listing_kind l ≡ Kind.Asks → {P : Type 0} → P
no_list_look e look asks = absurd (true≢false (sym (ap is_asks asks) ∙ ap is_asks (ap listing_kind e ∙ look)))

-- and such a change is none of the four
pub no_edit : (who : Party) (c : Call) {e f : Change} {x : Edit} → e ≡ f → change_kind f who c ≡ Kind.Edits x → change_kind e who c ≡ Kind.Other → {P : Type 0} → P
no_edit who c e edit other = absurd (true≢false (sym (ap is_edits (ap (λ (o : Change). change_kind o who c) e ∙ edit)) ∙ ap is_edits other))
