-- Calls in a row, refused ones among them, on the rules alone: touched never turns back, and a touched tank's length is the sum of what was inserted and deleted.
use Prim.Native.Nat.{ℕ, ◌+◌}
use mathlib.Core.Path.{◌≡◌, refl, sym, ap, ◌∙◌}
use mathlib.Core.Bool.{Bool, true, false, cond, ◌&&◌, false≢true}
use mathlib.Core.List.{List, [], ◌∷◌, ◌++◌, foldl, foldl-append}
use native.Mathlib.Omega.{arith}
use lib.Dec.{eqb}
use borrow.Author.Tests.{ltb-false, eqb-true}
use Rattle.styles.specs.declared.Identity.{Identity}
use Rattle.styles.specs.Marks.{only}
use Rattle.tank.specs.Rules.{View, fresh_length, fresh_view, Edit, annotating, inserting, deleting, removing, after_annotate, after_insert, after_delete, after_remove, stripped, after, barred, empty, over, long, own_number, clashes, full, refusal, first_refusal}
use Rattle.runs.specs.Positions.{within}
use Rattle.tank.specs.Lengths.{gained, lost, annotates}
use Rattle.tank.proofs.ViewLaws.{view_ext}
use Rattle.laws.proofs.Cases.{cond_same}

-- ---- calls on one tank in a row, refused ones among them
-- a call on this tank: an edit, and whether it is granted where many tanks share the runs (refusals 9, 10 and 17 are not this tank's own)
pub record OwnCall : Type 0 where
  pub edit : Edit
  pub granted : Bool

-- granted, and none of the tank's own refusals
abbrev pub accepted_by : OwnCall → View → Bool
accepted_by c v = c.granted && eqb (refusal c.edit v) 0

-- the tank after a call: a refused one leaves it as it was
abbrev pub after_one : OwnCall → View → View
after_one c v = cond (accepted_by c v) (after c.edit v) v

-- the tank after calls in a row
unfoldable pub after_calls : List OwnCall → View → View
after_calls cs v = foldl (λ w c. after_one c w) v cs

-- the sum over the accepted calls
unfoldable pub sum_of : (Edit → ℕ) → List OwnCall → View → ℕ
sum_of f [] v = 0
sum_of f (c ∷ cs) v = cond (accepted_by c v) (f c.edit) 0 + sum_of f cs (after_one c v)

-- ---- a call is refused, or is of some positions, within the length
pub accepted_fits : (e : Edit) (v : View) → refusal e v ≡ 0 → (empty e ≡ false) × (over e v ≡ false)
unfolding refusal
accepted_fits e v = go (barred e) (empty e) (over e v) (cond (long e v) 5 (first_refusal (own_number e) (cond (clashes e v) 7 (cond (full e v) 8 0))))
  where
    go : (o a b : Bool) (n : ℕ) → cond o 16 (cond a 3 (cond b 4 n)) ≡ 0 → (a ≡ false) × (b ≡ false)
    go true a b n h = absurd (omega arith)
    go false true b n h = absurd (omega arith)
    go false false true n h = absurd (omega arith)
    go false false false n h = (refl, refl)

pub accepted_open : (e : Edit) (v : View) → refusal e v ≡ 0 → barred e ≡ false
unfolding refusal
accepted_open e v = go (barred e) _
  where
    go : (o : Bool) (n : ℕ) → cond o 16 n ≡ 0 → o ≡ false
    go true n h = absurd (omega arith)
    go false n h = refl

module _ (Q : Bool → Type 0) (c : OwnCall) (v : View) (refused : Q false) (made : over c.edit v ≡ false → Q true) where
  call_by : Q (accepted_by c v)
  call_by = go c.granted (eqb (refusal c.edit v) 0) (λ h. made (accepted_fits c.edit v (eqb-true (refusal c.edit v) 0 h)).1)
    where
      go : (a b : Bool) → (b ≡ true → Q true) → Q (a && b)
      go true true m = m refl
      go true false m = refused
      go false b m = refused

-- ---- one call on a touched tank
record Grows (gain loss : ℕ) (v u : View) : Type 0 where
  touched : u.touched ≡ true
  length : u.length + loss ≡ v.length + gain

edit_grows : (e : Edit) (v : View) → v.touched ≡ true → over e v ≡ false → Grows (gained e) (lost e) v (after e v)
unfolding after after_annotate after_insert after_delete after_remove stripped gained lost over
edit_grows (annotating a b m) v t o = record { touched = refl; length = refl }
edit_grows (inserting by pos len) v t o = simp t (record { touched = refl; length = omega arith })
edit_grows (deleting by a b) v t o = let h = ltb-false v.length b o in simp t (record { touched = refl; length = omega arith })
edit_grows (removing id last) v t o = record { touched = t; length = refl }

call_grows : (c : OwnCall) (v : View) → v.touched ≡ true
    → Grows (cond (accepted_by c v) (gained c.edit) 0) (cond (accepted_by c v) (lost c.edit) 0) v (after_one c v)
call_grows c v t =
    call_by (λ b. Grows (cond b (gained c.edit) 0) (cond b (lost c.edit) 0) v (cond b (after c.edit v) v)) c v
    (record { touched = t; length = refl }) (edit_grows c.edit v t)

-- ---- touched never turns back
pub touched_stays : (cs : List OwnCall) (v : View) → v.touched ≡ true → (after_calls cs v).touched ≡ true
unfolding after_calls
touched_stays [] v t = t
touched_stays (c ∷ cs) v t = touched_stays cs (after_one c v) (call_grows c v t).touched

-- ---- a touched tank's length: what it was, plus all lengths inserted and less all deleted
pub length_law : (cs : List OwnCall) (v : View) → v.touched ≡ true → (after_calls cs v).length + sum_of lost cs v ≡ v.length + sum_of gained cs v
unfolding after_calls sum_of
length_law [] v t = refl
length_law (c ∷ cs) v t =
    let g = call_grows c v t in
    let h = g.length in
    omega (arith, length_law cs (after_one c v) g.touched)

-- ---- a fresh tank: an accepted annotate touches it, and every other call leaves it as it is
strip_fresh : (id : Identity) (a b : ℕ) → stripped id a b fresh_view ≡ fresh_view
unfolding stripped fresh_view only
strip_fresh id a b = view_ext _ _ refl refl (λ p. cond_same (within a b p))

data OnFresh (c : OwnCall) : Type 0 where
  idle : after_one c fresh_view ≡ fresh_view → OnFresh c
  first : accepted_by c fresh_view ≡ true → annotates c.edit ≡ true → OnFresh c

edit_fresh : (e : Edit) → annotates e ≡ false → after e fresh_view ≡ fresh_view
unfolding annotates after after_insert after_delete after_remove fresh_view
edit_fresh (annotating a b m) h = absurd (false≢true (sym h))
edit_fresh (inserting by pos len) h = refl
edit_fresh (deleting by a b) h = refl
edit_fresh (removing id last) h = strip_fresh id _ _

on_fresh : (c : OwnCall) → OnFresh c
on_fresh c = go (accepted_by c fresh_view) (annotates c.edit) refl refl
  where
    go : (a b : Bool) → accepted_by c fresh_view ≡ a → annotates c.edit ≡ b → OnFresh c
    go true true g h = first g h
    go true false g h = idle (simp g (edit_fresh c.edit h))
    go false b g h = idle (simp g)

record Touches (u : View) : Type 0 where
  touched : u.touched ≡ true
  length : u.length ≡ fresh_length

edit_touches : (e : Edit) → annotates e ≡ true → Touches (after e fresh_view)
unfolding annotates after after_annotate fresh_view
edit_touches (annotating a b m) h = record { touched = refl; length = refl }
edit_touches (inserting by pos len) h = absurd (false≢true h)
edit_touches (deleting by a b) h = absurd (false≢true h)
edit_touches (removing id last) h = absurd (false≢true h)

call_touches : (c : OwnCall) → accepted_by c fresh_view ≡ true → annotates c.edit ≡ true → Touches (after_one c fresh_view)
call_touches c g h = simp g (edit_touches c.edit h)

-- a fresh tank that calls leave untouched is still the fresh one
pub untouched_fresh : (cs : List OwnCall) → (after_calls cs fresh_view).touched ≡ false → after_calls cs fresh_view ≡ fresh_view
unfolding after_calls
untouched_fresh [] t = refl
untouched_fresh (c ∷ cs) t =
    elim (on_fresh c) [
      | idle e ↦ ap (after_calls cs) e ∙ untouched_fresh cs (sym (ap (λ v. (after_calls cs v).touched) e) ∙ t)
      | first g h ↦ absurd (false≢true (sym t ∙ touched_stays cs (after_one c fresh_view) (call_touches c g h).touched))
    ]

-- ---- the first accepted annotate of a fresh tank, among calls in a row
-- the calls before it, which leave the tank untouched, itself, and those after it
pub record First (cs : List OwnCall) : Type 0 where
  pub before : List OwnCall
  pub call : OwnCall
  pub later : List OwnCall
  pub split : cs ≡ before ++ (call ∷ later)
  pub untouched : (after_calls before fresh_view).touched ≡ false
  pub annotate : annotates call.edit ≡ true
  pub made : accepted_by call (after_calls before fresh_view) ≡ true

-- the tank right after it
abbrev pub touched_by : {cs : List OwnCall} → First cs → View
touched_by f = after_one f.call (after_calls f.before fresh_view)

-- ---- the length is T, plus all lengths inserted and less all deleted by the accepted calls since then
module _ {cs : List OwnCall} (f : First cs) where
  now_touched : Touches (touched_by f)
  now_touched =
      let e = untouched_fresh f.before f.untouched in
      rw e (call_touches f.call (sym (ap (accepted_by f.call) e) ∙ f.made) f.annotate)

  later_calls : after_calls cs fresh_view ≡ after_calls f.later (touched_by f)
  unfolding after_calls
  later_calls = ap (λ xs. after_calls xs fresh_view) f.split ∙ foldl-append _ fresh_view f.before (f.call ∷ f.later)

  pub since_first : (after_calls cs fresh_view).length + sum_of lost f.later (touched_by f) ≡ fresh_length + sum_of gained f.later (touched_by f)
  since_first =
      let t = now_touched in
      let l = t.length in
      omega (arith, ap (λ (v : View). v.length) later_calls, length_law f.later (touched_by f) t.touched)
