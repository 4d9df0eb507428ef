-- A tank taken out answers for the tank that it is.
use Prim.Native.Nat.{ℕ, ◌≤◌, ◌<◌}
use mathlib.Core.Path.{◌≡◌, sym, ap, subst, ◌∙◌}
use mathlib.Core.Bool.{Bool, true, false, cond}
use mathlib.Core.List.{List, []}
use native.Mathlib.Decide.{dec_lt}
use native.Mathlib.Omega.{arith}
use lib.ListN.{length, take}
use borrow.Author.Tests.{le-leb, lt-leb}
use Rattle.styles.specs.declared.Party.{Party}
use Rattle.tank.specs.declared.Tank.{Tank}
use Rattle.tank.specs.Rules.{View}
use Rattle.tank.specs.State.{view}
use Rattle.tanks.specs.declared.Tanks.{Tanks}
use Rattle.tanks.specs.House.{House, no_tank, ask_number, shown_at}
use Rattle.tanks.specs.Pool.{meaning}
use Rattle.lists.specs.declared.Listed.{Listed}
use Rattle.lists.specs.declared.anchors.Anchor.{Anchor}
use Rattle.runs.specs.Stretches.{in_front}
use Rattle.lists.specs.Lists.{list_refusal, unless_refused, filled_beside}
use Rattle.lists.specs.Anchors.{anchors, anchors_after, anchors_number}
use Rattle.lists.proofs.ListLaws.{Handed, handed_part, handed_count}
use Rattle.ask.specs.declared.Spot.{Spot}
use Rattle.ask.specs.Asks.{ask_at, ShownIn, no_list}

module _ {R : Type 0} (s : Tanks) (t : ℕ) (who : Party) (refused : R) (asks : View → R) where
  -- no such tank
  pub past : {r : R} → 8 ≤ t → r ≡ refused → r ≡ ask_at (meaning s) t who refused asks
  past h e = rw (le-leb 8 t h) e

  -- the tank, taken out
  pub inside : {r : R} {x : Tank} → t < 8 → ShownIn s t who x → r ≡ asks (view x) → r ≡ ask_at (meaning s) t who refused asks
  inside {r} {x} h k a = rw (lt-leb 8 t h) (a ∙ ap asks k.is)

-- a count with its number
pub listed_eq : (r : Listed) (a b : ℕ) → r.number ≡ a → r.count ≡ b → r ≡ record { number = a; count = b }
listed_eq r a b e g = λ i. record { number = e i; count = g i }

-- ---- a list's call: the answer, and what is left of the list lent to it
abbrev pub Listed-at : {A : Type 0} → House → ℕ → Party → (View → ℕ) → (View → List A) → List A → Listed → List A → Type 0
Listed-at h t who number xs out r last =
    (r ≡ ask_at h t who no_list (λ v. filled_beside (number v) (xs v))) × (last ≡ ask_at h t who out (λ v. in_front (unless_refused (number v) (xs v)) out))

module _ {A : Type 0} (s : Tanks) (t : ℕ) (who : Party) (number : View → ℕ) (xs : View → List A) (out : List A) {r : Listed} {last : List A} where
  pub list_past : 8 ≤ t → r ≡ no_list → last ≡ out → Listed-at (meaning s) t who number xs out r last
  list_past h e g = rw (le-leb 8 t h) (e, g)

  pub list_inside : {x : Tank} → t < 8 → ShownIn s t who x → Handed (number (view x)) (xs (view x)) out r last → Listed-at (meaning s) t who number xs out r last
  list_inside h k a = rw (lt-leb 8 t h) (subst (λ (v : View). Handed (number v) (xs v) out r last) k.is a)

-- ---- the part of a buffer that a list filled
module _ (number : ℕ) (xs out : List ℕ) (r : Listed) (last : List ℕ) where
  part_by : (b : Bool) → r ≡ cond b no_list (filled_beside number xs) → last ≡ cond b out (in_front (unless_refused number xs) out) → take r.count last ≡ cond b [] (unless_refused number xs)
  part_by true e g = ap (λ (x : Listed). take x.count last) e
  part_by false e g = handed_part number xs out r last (e, g)

  count_by : (b : Bool) → r ≡ cond b no_list (filled_beside number xs) → last ≡ cond b out (in_front (unless_refused number xs) out) → r.count ≡ length (take r.count last)
  count_by true e g = ap (λ (x : Listed). x.count) e ∙ sym (ap length (part_by true e g))
  count_by false e g = handed_count number xs out r last (e, g)

module _ (h : House) (t : ℕ) (who : Party) (number : View → ℕ) (xs : View → List ℕ) (out : List ℕ) (r : Listed) (last : List ℕ) (said : Listed-at h t who number xs out r last) where
  pub asked_part : take r.count last ≡ ask_at h t who [] (λ v. unless_refused (number v) (xs v))
  asked_part = part_by (number (shown_at h who t)) (xs (shown_at h who t)) out r last (no_tank t) said.0 said.1

  pub asked_count : r.count ≡ length (take r.count last)
  asked_count = count_by (number (shown_at h who t)) (xs (shown_at h who t)) out r last (no_tank t) said.0 said.1

-- ---- a list that its callee refuses where there is no such tank
-- what `iter_anchors` is told by its callee, and what it says
abbrev pub Said-listed : Tank → ℕ → List Anchor → Listed → List Anchor → Type 0
Said-listed x n ys = Handed (anchors_after n (length ys) (view x)) (anchors (view x)) ys

abbrev pub Says-asked : Tanks → Spot → List Anchor → Listed → List Anchor → Type 0
Says-asked s k ys = Listed-at (meaning s) k.tank k.who (anchors_number (length ys)) anchors ys

pub anchors_asked : (s : Tanks) (k : Spot) (n : ℕ) (x : Tank) (ys zs : List Anchor) (r : Listed) → ShownIn s k.tank k.who x → n ≡ ask_number k.tank → Said-listed x n ys r zs → Says-asked s k ys r zs
unfolding list_refusal
anchors_asked s spot n x ys zs r k e said =
    let t = spot.tank in
    elim (dec_lt t 8) [
      | yes h ↦
          let is : n ≡ 0 = e ∙ ap (λ (b : Bool). cond b 1 0) (lt-leb 8 t h) in
          list_inside s t spot.who (anchors_number (length ys)) anchors ys h k (subst (λ (m : ℕ). Said-listed x m ys r zs) is said)
      | no h ↦
          let l : 8 ≤ t = omega arith in
          let is : n ≡ 1 = e ∙ ap (λ (b : Bool). cond b 1 0) (le-leb 8 t l) in
          let a : Said-listed x 1 ys r zs = subst (λ (m : ℕ). Said-listed x m ys r zs) is said in
          list_past s t spot.who (anchors_number (length ys)) anchors ys l a.0 a.1
    ]
