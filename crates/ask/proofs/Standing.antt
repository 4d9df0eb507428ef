-- A tank read where it stands answers for the tank that it is.
use Prim.Native.Nat.{ℕ, ◌≤◌, ◌<◌}
use mathlib.Core.Path.{◌≡◌, sym, ap, ◌∙◌}
use mathlib.Core.Bool.{Bool, true, false, cond}
use mathlib.Core.List.{List, []}
use native.Mathlib.Decide.{dec_lt}
use native.Mathlib.Omega.{arith}
use lib.ListN.{get_or}
use borrow.Author.Tests.{le-leb, lt-leb, lt-ltb, le-ltb}
use Rattle.styles.specs.declared.Party.{Party}
use Rattle.styles.specs.Marks.{same_marks}
use Rattle.runs.specs.Positions.{all_at}
use Rattle.tank.specs.Rules.{View, shown_to}
use Rattle.tank.specs.State.{view}
use Rattle.questions.specs.Questions.{shared_of, position_refusal, insert_refusal, same_refusal, agreeing, styles_of_range}
use Rattle.tanks.specs.declared.Head.{Head}
use Rattle.tanks.specs.declared.Run.{Run}
use Rattle.tanks.specs.declared.Table.{Table}
use Rattle.tanks.specs.declared.Tanks.{Tanks}
use Rattle.tanks.specs.Promises.{place_of}
use Rattle.tanks.specs.House.{no_tank}
use Rattle.tanks.specs.Pool.{no_head, no_table, tank_in, meaning, Sound}
use Rattle.tanks.specs.Looks.{shown_in}
use Rattle.tanks.proofs.LookLaws.{stands_in, shown_there, shown_length}
use Rattle.tanks.proofs.PartsLaws.{place_in}
use Rattle.lists.specs.declared.Listed.{Listed}
use Rattle.lists.specs.Lists.{unless_refused, filled_beside}
use Rattle.lists.proofs.ListLaws.{Handed}
use Rattle.runs.specs.Stretches.{in_front}
use Rattle.ask.specs.Asks.{ask_at, no_list}
use Rattle.ask.specs.Parts.{CanAsk, ask_in}
use Rattle.ask.proofs.AskLaws.{Listed-at}

-- ---- the parts of a state
module _ (s : Tanks) (t u : ℕ) (place : u ≡ place_of t) where
  own_table : t < 8 → get_or s.tables u no_table ≡ get_or s.tables t no_table
  own_table h = ap (λ (k : ℕ). get_or s.tables k no_table) (place ∙ place_in t h)

  pub can_ask : Sound s → CanAsk s.heads s.pool (get_or s.tables u no_table) t
  can_ask ok h = stands_in s t h (own_table h) ok

  -- what is asked of them is asked of the state
  pub asked_there : {R : Type 0} (who : Party) (refused : R) (asks : View → R)
      → ask_in s.heads s.pool (get_or s.tables u no_table) t who refused asks ≡ ask_at (meaning s) t who refused asks
  asked_there who refused asks =
      elim (dec_lt t 8) [
        | yes h ↦ ap (λ (v : View). cond (no_tank t) refused (asks v)) (shown_there s t h (own_table h) who)
        | no h ↦ rw (le-leb 8 t (omega arith))
      ]

-- a list's call on the parts: the answer, and what is left of the list lent to it
abbrev pub ListedIn : List Head → List Run → Table → ℕ → Party → (View → ℕ) → (View → List ℕ) → List ℕ → Listed → List ℕ → Type 0
ListedIn hs pool table t who number xs out r last =
    (r ≡ ask_in hs pool table t who no_list (λ v. filled_beside (number v) (xs v))) × (last ≡ ask_in hs pool table t who out (λ v. in_front (unless_refused (number v) (xs v)) out))

-- what they list is what the state does
pub listed_there : (s : Tanks) (t u : ℕ) → u ≡ place_of t → (who : Party) (number : View → ℕ) (xs : View → List ℕ) (out : List ℕ) {r : Listed} {last : List ℕ}
    → ListedIn s.heads s.pool (get_or s.tables u no_table) t who number xs out r last → Listed-at (meaning s) t who number xs out r last
listed_there s t u place who number xs out said =
    (said.0 ∙ asked_there s t u place who no_list (λ v. filled_beside (number v) (xs v)), said.1 ∙ asked_there s t u place who out (λ v. in_front (unless_refused (number v) (xs v)) out))

module _ (hs : List Head) (pool : List Run) (table : Table) (t : ℕ) (who : Party) where
  -- ---- a question by its cases
  module _ {A : Type 0} (refused : A) (asks : View → A) where
    pub none_there : {r : A} → 8 ≤ t → r ≡ refused → r ≡ ask_in hs pool table t who refused asks
    none_there h e = rw (le-leb 8 t h) e

    pub one_there : {r : A} → t < 8 → r ≡ asks (shown_in hs pool table t who) → r ≡ ask_in hs pool table t who refused asks
    one_there h e = rw (lt-leb 8 t h) e

  -- ---- a list by its cases
  module _ (number : View → ℕ) (xs : View → List ℕ) (out : List ℕ) {r : Listed} {last : List ℕ} where
    pub list_none_there : 8 ≤ t → r ≡ no_list → last ≡ out → ListedIn hs pool table t who number xs out r last
    list_none_there h e g = rw (le-leb 8 t h) (e, g)

    pub list_one_there : t < 8 → Handed (number (shown_in hs pool table t who)) (xs (shown_in hs pool table t who)) out r last → ListedIn hs pool table t who number xs out r last
    list_one_there h a = rw (lt-leb 8 t h) a

  -- the length that the party is shown
  pub long_there : {l : ℕ} → l ≡ (get_or hs t no_head).length → (shown_in hs pool table t who).length ≡ l
  long_there e = shown_length hs pool table t who ∙ sym e

  pub touched_there : {b : Bool} → b ≡ (get_or hs t no_head).touched → (shown_in hs pool table t who).touched ≡ b
  unfolding tank_in shown_to view
  touched_there e = sym e

  module _ {A : Type 0} (g : ℕ → View → A) (refused : A) (p : ℕ) (h : t < 8) {l : ℕ} (e : l ≡ (get_or hs t no_head).length) where
    -- ---- at a position
    pub over_at : {r : A} → l ≤ p → r ≡ g 4 (shown_in hs pool table t who) → r ≡ ask_in hs pool table t who refused (λ v. g (position_refusal p v) v)
    unfolding position_refusal
    over_at k a = let n = long_there e in rw (lt-leb 8 t h, le-leb (shown_in hs pool table t who).length p (omega arith)) a

    pub within_at : {r : A} → p < l → r ≡ g 0 (shown_in hs pool table t who) → r ≡ ask_in hs pool table t who refused (λ v. g (position_refusal p v) v)
    unfolding position_refusal
    within_at k a = let n = long_there e in rw (lt-leb 8 t h, lt-leb (shown_in hs pool table t who).length p (omega arith)) a

    -- ---- what an insertion would get
    pub over_insert : {r : A} → l < p → r ≡ g 4 (shown_in hs pool table t who) → r ≡ ask_in hs pool table t who refused (λ v. g (insert_refusal p v) v)
    unfolding insert_refusal
    over_insert k a = let n = long_there e in rw (lt-leb 8 t h, lt-ltb (shown_in hs pool table t who).length p (omega arith)) a

    pub within_insert : {r : A} → p ≤ l → r ≡ g 0 (shown_in hs pool table t who) → r ≡ ask_in hs pool table t who refused (λ v. g (insert_refusal p v) v)
    unfolding insert_refusal
    within_insert k a = let n = long_there e in rw (lt-leb 8 t h, le-ltb (shown_in hs pool table t who).length p (omega arith)) a

-- ---- the marks that a range shares, of any view
module _ (v : View) (a b : ℕ) where
  pub shared_3 : b ≤ a → shared_of 3 false [] ≡ styles_of_range a b v
  unfolding same_refusal
  shared_3 h = simp (le-leb b a h)

  module _ (some : a < b) where
    pub shared_4 : v.length < b → shared_of 4 false [] ≡ styles_of_range a b v
    unfolding same_refusal
    shared_4 h = simp (lt-leb b a some, lt-ltb v.length b h)

    module _ (fits : b ≤ v.length) where
      answers : (agree : Bool) → agreeing a b v ≡ agree → shared_of 0 agree (v.at a) ≡ styles_of_range a b v
      unfolding same_refusal
      answers agree e = simp (lt-leb b a some, le-ltb v.length b fits, e)

      pub shared_untouched : v.touched ≡ false → shared_of 0 false [] ≡ styles_of_range a b v
      unfolding agreeing
      shared_untouched e = answers false (simp e)

      pub shared_done : v.touched ≡ true → shared_of 0 (all_at (λ p. same_marks (v.at p) (v.at a)) a b) (v.at a) ≡ styles_of_range a b v
      unfolding agreeing
      shared_done e = answers (all_at (λ p. same_marks (v.at p) (v.at a)) a b) (simp e)
