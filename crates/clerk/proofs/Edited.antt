-- An edit that is made and answered performs the call that asks for it.
use mathlib.Core.Path.{◌≡◌, refl, sym, subst}
use mathlib.Core.List.{List}
use Prim.Native.Nat.{ℕ}
use Rattle.styles.specs.declared.Styles.{Styles}
use Rattle.tanks.specs.declared.Edit.{Edit}
use Rattle.tanks.specs.declared.Tanks.{Tanks}
use Rattle.script.specs.declared.Both.{Both}
use Rattle.script.specs.declared.Call.{Call}
use Rattle.script.specs.declared.Change.{Change}
use Rattle.script.specs.declared.Listing.{Listing}
use Rattle.script.specs.declared.Op.{Op}
use Rattle.script.specs.declared.Question.{Question}
use Rattle.answers.specs.Waiting.{Adds}
use Rattle.clerk.specs.declared.Kind.{Kind}
use Rattle.clerk.specs.declared.Side.{Side}
use Rattle.clerk.specs.Calls.{tank_for, Edits, changed, change_says, question_kind, listing_kind, change_kind, both_kind, kind_of, edit_says}
use Rattle.clerk.specs.Desk.{Settled, after_op, side_after, says_of, Performs}

-- of `answered`
pub as_edit : (number : ℕ) (styles : Styles) (first : ℕ) {d out : List ℕ} {at k : ℕ} {e f : Edit} → e ≡ f → Adds d at (edit_says f number styles first) k out → Adds d at (edit_says e number styles first) k out
as_edit number styles first {d} {out} {at} {k} e p = subst (λ (x : Edit). Adds d at (edit_says x number styles first) k out) (sym e) p

-- of `edited`
pub same_says : (e : Edit) {n m : ℕ} {x y : Styles} {a b : ℕ} → n ≡ m → x ≡ y → a ≡ b → edit_says e n x a ≡ edit_says e m y b
same_says e p q r = λ i. edit_says e (p i) (q i) (r i)

-- where a call is an edit of one tank, that edit of its tank, done and answered, performs it as one of its op
abbrev Serves : Tanks → Side → Call → List ℕ → List ℕ → ℕ → List ℕ → Op → Kind → Type 0
Serves s side c body d at out op Kind.Asks = Unit
Serves s side c body d at out op (Kind.Looks q) = Unit
Serves s side c body d at out op (Kind.Edits e) =
    (next : Tanks) (k : ℕ) → Edits e s (tank_for c) d at next k out → Performs op s side c body d at (record { tanks = next; side = side; at = k }) out
Serves s side c body d at out op Kind.Other = Unit

module _ (s : Tanks) (side : Side) (c : Call) (body d : List ℕ) (at : ℕ) (out : List ℕ) (kept : Settled side) where
  -- each of the four; opening and ageing are none
  change_serves : (e : Change) → Serves s side c body d at out (Op.Change e) (change_kind e side.party c)
  unfolding changed change_says change_kind edit_says after_op side_after says_of
  change_serves Change.Open = tt
  change_serves Change.Annotate = λ next k p. record { sound = p.sound; settled = kept; is = p.is; keeps = refl; answer = p.answer }
  change_serves Change.Insert = λ next k p. record { sound = p.sound; settled = kept; is = p.is; keeps = refl; answer = p.answer }
  change_serves Change.Delete = λ next k p. record { sound = p.sound; settled = kept; is = p.is; keeps = refl; answer = p.answer }
  change_serves Change.Remove = λ next k p. record { sound = p.sound; settled = kept; is = p.is; keeps = refl; answer = p.answer }
  change_serves Change.Age = tt

  -- no question is one of them, no list and no strip
  question_serves : (q : Question) → Serves s side c body d at out (Op.Question q) (question_kind q)
  unfolding question_kind
  question_serves Question.Length = tt
  question_serves Question.Touched = tt
  question_serves Question.Runs = tt
  question_serves Question.Value = tt
  question_serves Question.HasKey = tt
  question_serves Question.AllValue = tt
  question_serves Question.Same = tt
  question_serves Question.Marks = tt
  question_serves Question.Inherit = tt
  question_serves Question.Mark = tt
  question_serves Question.Inherited = tt
  question_serves Question.Find = tt
  question_serves Question.Propose = tt

  listing_serves : (l : Listing) → Serves s side c body d at out (Op.Listing l) (listing_kind l)
  unfolding listing_kind
  listing_serves Listing.Stretches = tt
  listing_serves Listing.StretchesNeeded = tt
  listing_serves Listing.Whole = tt
  listing_serves Listing.WholeNeeded = tt
  listing_serves Listing.Anchors = tt
  listing_serves Listing.Save = tt
  listing_serves Listing.SaveNeeded = tt

  both_serves : (b : Both) → Serves s side c body d at out (Op.Both b) (both_kind b)
  unfolding both_kind
  both_serves Both.OpenSet = tt
  both_serves Both.Plan = tt
  both_serves Both.Strip = tt

  serves : (op : Op) → Serves s side c body d at out op (kind_of op side.party c)
  unfolding kind_of
  serves Op.Nothing = tt
  serves (Op.Change e) = change_serves e
  serves (Op.Question q) = question_serves q
  serves (Op.Listing l) = listing_serves l
  serves (Op.Text x) = tt
  serves (Op.Desk x) = tt
  serves (Op.Both b) = both_serves b

pub performs : (s : Tanks) (side : Side) (c : Call) (body : List ℕ) {d out : List ℕ} {at : ℕ} {e : Edit} → kind_of c.op side.party c ≡ Kind.Edits e → Settled side → (next : Tanks) (k : ℕ) → Edits e s (tank_for c) d at next k out
    → Performs c.op s side c body d at (record { tanks = next; side = side; at = k }) out
performs s side c body {d} {out} {at} e kept = subst (Serves s side c body d at out c.op) e (serves s side c body d at out kept c.op)
