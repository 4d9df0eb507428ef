-- Of one party's set the last mark has the highest key, so the lane of the higher keys has a bar where any of their marks lies.
use Prim.Native.Nat.{ℕ, ◌≤◌, ◌<◌}
use mathlib.Core.Bool.{Bool, true, false, ◌||◌, true≢false}
use mathlib.Core.List.{List, [], ◌∷◌}
use mathlib.Core.Path.{◌≡◌, refl, sym, ap, ap₂, ◌∙◌}
use native.Mathlib.Decide.{dec_le}
use native.Mathlib.Omega.{arith}
use borrow.Author.Tests.{le-ltb, le-leb, lt-leb, ne_eqb}
use lib.Dec.{leb}
use lib.ListN.{length}
use Rattle.styles.specs.declared.Identity.{Identity}
use Rattle.styles.specs.declared.Mark.{Mark}
use Rattle.styles.specs.declared.Party.{Party}
use Rattle.styles.specs.declared.Party.TheVariants.{Plant, Lab}
use Rattle.styles.specs.declared.Stand.{Stand}
use Rattle.styles.specs.declared.Stand.TheVariants.{Before, Same, After}
use Rattle.styles.specs.Order.{numbers, then, parties, stands, id_of, is_before}
use Rattle.styles.specs.Marks.{Above, Sorted}
use Rattle.styles.specs.Answers.{rank_of}
use Rattle.questions.specs.Questions.{asked_of}
use Rattle.picture.specs.Lanes.{is_from}

-- some mark has this key or a higher one
unfoldable pub any_from : ℕ → List Mark → Bool
any_from least [] = false
any_from least (m ∷ ms) = leb least m.key || any_from least ms

-- all marks are one party's
unfoldable pub OneParty : Party → List Mark → Type 0
OneParty who [] = Unit {0}
OneParty who (m ∷ ms) = (m.party ≡ who) × OneParty who ms

-- ---- the order of keys
same_party_lem : (p : Party) → parties p p ≡ Same
unfolding numbers
same_party_lem Plant = refl
same_party_lem Lab = refl

key_after : (a b : ℕ) → b < a → numbers a b ≡ After
unfolding numbers
key_after a b h = rw (le-ltb a b (omega arith), ne_eqb a b (λ e. omega arith)) refl

key_up : (a b : Identity) → a.party ≡ b.party → stands a b ≡ Before → a.key ≤ b.key
unfolding stands
key_up a b e h =
    elim (dec_le a.key b.key) [
      | yes k ↦ k
      | no k ↦
          let rest : Stand = then (numbers a.lamport b.lamport) (numbers a.peer b.peer) in
          let p : parties a.party b.party ≡ Same = ap (λ (x : Party). parties x b.party) e ∙ same_party_lem b.party in
          let q : numbers a.key b.key ≡ After = key_after a.key b.key (omega arith) in
          absurd (true≢false (ap is_before (sym h ∙ ap₂ (λ (x y : Stand). then x (then y rest)) p q)))
    ]

leb_up : (least k l : ℕ) → k ≤ l → leb least k ≡ true → leb least l ≡ true
leb_up least k l h t =
    elim (dec_le least k) [
      | yes g ↦ le-leb least l (omega arith)
      | no g ↦ absurd (true≢false (sym t ∙ lt-leb least k (omega arith)))
    ]

covers : (a b c : Bool) → (a ≡ true → b ≡ true) → (b || c) ≡ (a || (b || c))
covers true b c h = ap (λ (x : Bool). x || c) (h refl)
covers false b c h = refl

alone : (a : Bool) → a ≡ (a || false)
alone true = refl
alone false = refl

pub last_highest : (least : ℕ) (who : Party) (m : Mark) (ms : List Mark) → Sorted (m ∷ ms) → OneParty who (m ∷ ms)
    → is_from least (asked_of 0 (rank_of (m ∷ ms) (length ms))) ≡ any_from least (m ∷ ms)
unfolding is_from rank_of any_from Sorted Above OneParty
last_highest least who m [] s o = alone (leb least m.key)
last_highest least who m (x ∷ xs) s o =
    last_highest least who x xs s.1 o.1
    ∙ covers (leb least m.key) (leb least x.key) (any_from least xs)
    (leb_up least m.key x.key (key_up (id_of m) (id_of x) (o.0 ∙ sym o.1.0) s.0.0))
