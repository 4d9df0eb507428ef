-- A lent list of anchors: what the walk has stored after some turns, and what it answers.
use Prim.Native.Nat.{ℕ, zero, suc, ◌+◌, ◌≤◌, ◌<◌}
use mathlib.Core.Path.{◌≡◌, refl, sym, ap, ap₂, ◌∙◌}
use mathlib.Core.Bool.{Bool, true, false, cond}
use mathlib.Core.List.{List, [], ◌∷◌, ◌++◌}
use native.Mathlib.Omega.{arith}
use native.Mathlib.Decide.{dec_lt}
use lib.Dec.{eqb}
use lib.ListN.{length, get_or, set, drop, length-drop}
use Rattle.std.specs.Prelude.{None, Some}
use Rattle.std.proofs.lemmas.List.{get_or-drop}
use Rattle.std.proofs.Common.{drop-drop, add-one, add-zero}
use lib.Seq.{take-length}
use borrow.Author.Tests.{lt-ltb, le-ltb, ne_eqb}
use Rattle.laws.proofs.Lists.{stored, stored_is}
use Rattle.tank.specs.declared.Tank.{Tank}
use Rattle.lists.specs.declared.anchors.Anchor.{Anchor}
use Rattle.lists.specs.declared.anchors.AnchorCursor.{AnchorCursor}
use Rattle.tank.specs.State.{view}
use Rattle.runs.specs.Stretches.{in_front}
use Rattle.lists.specs.Lists.{list_refusal, unless_refused, filled_beside}
use Rattle.lists.specs.Anchors.{anchors, no_anchor, rest, Stands, Steps}

-- ---- what the list answers
pub judged_lower : {A : Type 0} (xs : List A) (lower room : ℕ) → 0 < lower → record { number = lower; count = 0 } ≡ filled_beside (list_refusal lower room (length xs)) xs
unfolding list_refusal
judged_lower xs lower room h = simp (ne_eqb lower 0 (λ e. omega arith))

module _ {A : Type 0} (xs : List A) (lower room n : ℕ) (none : lower ≤ 0) (is : n ≡ length xs) where
  pub judged_short : room < n → record { number = 11; count = 0 } ≡ filled_beside (list_refusal lower room (length xs)) xs
  unfolding list_refusal
  judged_short h =
      let z : lower ≡ 0 = omega arith in
      let l : room < length xs = omega arith in
      rw (z, lt-ltb room (length xs) l)

  pub judged_full : n ≤ room → record { number = 0; count = n } ≡ filled_beside (list_refusal lower room (length xs)) xs
  unfolding list_refusal
  judged_full h =
      let z : lower ≡ 0 = omega arith in
      let l : length xs ≤ room = omega arith in
      rw (z, le-ltb room (length xs) l, is)

-- never more than the room
pub count_room : {A : Type 0} (xs : List A) (lower room : ℕ) → length (unless_refused (list_refusal lower room (length xs)) xs) ≤ room
unfolding list_refusal
count_room xs zero room = elim (dec_lt room (length xs)) [
  | yes h ↦ rw (lt-ltb room (length xs) h) (omega arith)
  | no h ↦ let l : length xs ≤ room = omega arith in rw (le-ltb room (length xs) l) l
]
count_room xs (suc lower) room = simp (ne_eqb (suc lower) 0 (λ e. omega arith)) (omega arith)

-- nor more than all
pub count_all : {A : Type 0} (number : ℕ) (xs : List A) → length (unless_refused number xs) ≤ length xs
count_all number xs = go (eqb number 0)
  where
    go : (b : Bool) → length (cond b xs []) ≤ length xs
    go true = omega arith
    go false = omega arith

-- ---- the list after j stores
-- the anchors that a walk stores, one by one
abbrev pub nth : List Anchor → ℕ → Anchor
nth xs j = get_or xs j no_anchor

front_by : (all : Bool) (xs ys : List Anchor) (n : ℕ) → n ≡ length (cond all xs []) → n ≤ length ys
    → stored (nth xs) ys n ≡ in_front (cond all xs []) ys
front_by true xs ys n e h =
    stored_is (nth xs) xs ys no_anchor n (omega arith) h (λ _ _. refl) ∙ rw e (ap (λ (zs : List Anchor). zs ++ drop (length xs) ys) (take-length xs))
front_by false xs ys n e h = rw e

-- all of them or none
pub stored_front : (number : ℕ) (xs ys : List Anchor) (n : ℕ) → n ≡ length (unless_refused number xs) → n ≤ length ys
    → stored (nth xs) ys n ≡ in_front (unless_refused number xs) ys
stored_front number xs ys n e h = front_by (eqb number 0) xs ys n e h

-- ---- the walk
-- where the walk stands before turn j of n: at a cursor from which the anchors from the j-th on come
pub record Standing (t : Tank) (j : ℕ) (c : AnchorCursor) : Type 0 where
  pub stands : Stands t c
  pub come : rest t c ≡ drop j (anchors (view t))

-- a turn: the next anchor is stored, and the walk stands behind it
module _ {t : Tank} {j : ℕ} {c : AnchorCursor} (w : Standing t j c) where
  pub stand_next : (a : Anchor) (d : AnchorCursor) → Steps t c (Some (a, d)) → (a ≡ nth (anchors (view t)) j) × Standing t (j + 1) d
  unfolding Steps
  stand_next a d s =
      let e : drop j (anchors (view t)) ≡ a ∷ rest t d = sym w.come ∙ s.0 in (
        sym (ap (λ (l : List Anchor). get_or l 0 no_anchor) e) ∙ get_or-drop j (anchors (view t)) 0 no_anchor ∙ ap (nth (anchors (view t))) (add-zero j),
        record { stands = s.1; come = sym (ap (drop 1) e) ∙ drop-drop 1 j (anchors (view t)) },
      )

  -- as long as an anchor is left there is a step
  pub stand_more : j < length (anchors (view t)) → Steps t c None → ⊥
  unfolding Steps
  stand_more h s = let e : length (drop j (anchors (view t))) ≡ 0 = ap length (sym w.come ∙ s) in omega (arith, length-drop j (anchors (view t)))

pub store_next : (xs zs ys : List Anchor) (j : ℕ) (a : Anchor) → zs ≡ stored (nth xs) ys j → a ≡ nth xs j → set zs j a ≡ stored (nth xs) ys (j + 1)
store_next xs zs ys j a e h = rw (add-one j) (ap₂ (λ (l : List Anchor) (b : Anchor). set l j b) e h)
