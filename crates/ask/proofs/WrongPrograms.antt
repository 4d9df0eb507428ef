-- Document 01, "What the statements have to rule out": for each wrong program that it names, on one small example, no result with that
-- behaviour meets the statement. The house is opened with eight pairs (1, 512); A goes on 10..20 of tank 0, and then four positions are
-- inserted at 15. What the rules say of that is in the paper's second and third example.
use Prim.Native.Nat.{ℕ, zero, suc}
use mathlib.Core.Path.{◌≡◌, refl, sym, ap, ap₂, ◌∙◌}
use mathlib.Core.Bool.{cond}
use mathlib.Core.Logic.{◌≢◌}
use mathlib.Core.List.{List, [], ◌∷◌}
use native.Mathlib.Omega.{arith}
use lib.Dec.{leb}
use lib.ListN.{length, replicate}
use Rattle.styles.specs.declared.Mark.{Mark}
use Rattle.styles.specs.declared.Party.TheVariants.{Plant}
use Rattle.styles.specs.declared.Styles.{Styles}
use Rattle.styles.specs.Answers.{styles_of}
use Rattle.styles.specs.Marks.{only, of_party}
use Rattle.runs.specs.Positions.{within, all_at, sum_below}
use Rattle.richtext.specs.declared.AnchorType.TheVariants.{Start, End}
use Rattle.lists.specs.declared.Listed.{Listed}
use Rattle.lists.specs.Anchors.{anchor_of, anchors}
use Rattle.questions.specs.declared.SetAsked.{SetAsked}
use Rattle.questions.specs.Questions.{position_refusal, set_of, styles_at}
use Rattle.tank.specs.Rules.{View, fresh_view, Edit, annotating, inserting, shown_to, when_accepted}
use Rattle.tank.proofs.Calls.{when_refused}
use Rattle.laws.proofs.Cases.{cond_by}
use Rattle.std.specs.Prelude.{Result}
use Rattle.refusal.specs.declared.Refusal.{Refusal}
use Rattle.refusal.specs.Answers.{given_or}
use Rattle.tanks.specs.declared.Count.{Count}
use Rattle.tanks.specs.declared.Setting.{Setting}
use Rattle.tanks.specs.declared.Tanks.{Tanks}
use Rattle.tanks.specs.Settings.{accepted}
use Rattle.tanks.specs.House.{House, tank_at, held, shown_at, opening, ask_number, refusal_at, after_at, inserted_set_at, after_all}
use Rattle.tanks.specs.Pool.{meaning}
use Rattle.tanks.specs.Answers.{count_said}
use Rattle.tanks.specs.Promises.{CalledAt, Calls, counts}
use Rattle.tanks.proofs.Sequences.{calls_mean}
use Rattle.ask.specs.Asks.{marks_asked, anchors_needed_asked}
use Rattle.ask.specs.Examples.{Answer, refused, taken, gives, begins, reply, marks_at, Says, leaves, AllSaid, Holds, AllHold, A, on, look, edit, anchored, first_a, table}
use Rattle.ask.proofs.Examples.{examples}

-- ---- The example
abbrev pairs : List Setting
pairs = replicate 8 (record { share = 1; limit = 512 })

-- the two calls
abbrev marking : Edit
marking = annotating 10 20 A

abbrev filling : Edit
filling = inserting Plant 15 4

-- the house before the first, between them, and after the second
abbrev before : House
before = opening pairs

abbrev between : House
between = after_at before 0 marking

abbrev behind : House
behind = after_at between 0 filling

-- ---- What the rules say of it
second_example : AllSaid (first_a ∷ anchored 0 (anchor_of 10 Start A ∷ anchor_of 19 End A ∷ []) ∷ []) before
unfolding AllHold Holds table
second_example = examples.1.0.1

third_example : AllSaid (first_a ∷ edit filling (gives (A ∷ [])) (look 4611686018427387907 3 (on 10 24 (A ∷ []) ∷ [])) ∷ []) before
unfolding AllHold Holds table
third_example = examples.1.1.0.1

-- the number that an answer tells, and the set
abbrev number_in : Answer → ℕ
number_in (refused n) = n
number_in taken = 0
number_in (gives ms) = 0
number_in (begins p) = 0

abbrev set_in : Answer → List Mark
set_in (refused n) = []
set_in taken = []
set_in (gives ms) = ms
set_in (begins p) = []

told : (n : ℕ) (x : Answer) → number_in x ≡ 0 → number_in (when_accepted n x (refused n)) ≡ n
told zero x z = z
told (suc n) x z = ap number_in (when_refused (suc n) x (refused (suc n)) (omega arith))

set_told : (n : ℕ) (ms : List Mark) → n ≡ 0 → set_in (when_accepted n (gives ms) (refused n)) ≡ ms
set_told zero ms z = refl
set_told (suc n) ms z = absurd (omega arith)

marking_number : refusal_at before 0 marking ≡ 0
unfolding AllSaid Says reply
marking_number = sym (told (refusal_at before 0 marking) taken refl) ∙ ap number_in third_example.0.0

between_at_lem : (p : ℕ) → (tank_at between 0).at p ≡ marks_at (on 10 20 (A ∷ []) ∷ []) p
unfolding AllSaid Says
between_at_lem = third_example.0.1.marks_are

between_runs : held between 0 ≡ 3
unfolding AllSaid Says
between_runs = third_example.0.1.runs_are_lem

between_length : (tank_at between 0).length ≡ 4611686018427387903
unfolding AllSaid Says
between_length = third_example.0.1.length_is

between_anchors : length (anchors (tank_at between 0)) ≡ 2
unfolding AllSaid Says leaves
between_anchors = ap length second_example.1.0

-- all its marks are the plant's
plant_marks : (p : ℕ) → of_party Plant (marks_at (on 10 20 (A ∷ []) ∷ []) p) ≡ marks_at (on 10 20 (A ∷ []) ∷ []) p
unfolding marks_at only
plant_marks p = cond_by (λ (ms : List Mark). of_party Plant ms ≡ ms) (within 10 20 p) {x = A ∷ []} {y = []} refl refl

between_shown : shown_at between Plant 0 ≡ tank_at between 0
unfolding shown_to
between_shown = λ i. record {
  length = (tank_at between 0).length;
  touched = (tank_at between 0).touched;
  at = λ p. (ap (of_party Plant) (between_at_lem p) ∙ plant_marks p ∙ sym (between_at_lem p)) i;
}

filling_number : refusal_at between 0 filling ≡ 0
unfolding AllSaid Says leaves reply
filling_number = sym (told (refusal_at between 0 filling) (gives (inserted_set_at between 0 Plant 15 4)) refl) ∙ ap number_in third_example.1.0.0

filling_set : inserted_set_at between 0 Plant 15 4 ≡ A ∷ []
unfolding AllSaid Says leaves reply
filling_set = sym (set_told (refusal_at between 0 filling) (inserted_set_at between 0 Plant 15 4) filling_number) ∙ ap set_in third_example.1.0.0

behind_at : (p : ℕ) → (tank_at behind 0).at p ≡ marks_at (on 10 24 (A ∷ []) ∷ []) p
unfolding AllSaid Says leaves
behind_at = third_example.1.0.1.marks_are

behind_length : (tank_at behind 0).length ≡ 4611686018427387907
unfolding AllSaid Says leaves
behind_length = third_example.1.0.1.length_is

-- ---- A program that refuses every edit
-- it would have to refuse the first call, and 0 is the only number that the statement allows
pub refuses_every_edit : (s next : Tanks) (n : ℕ) → meaning s ≡ before → CalledAt s 0 marking n next → n ≢ 0 → ⊥
refuses_every_edit s next n e c wrong = wrong (c.number_is ∙ ap (λ (h : House). refusal_at h 0 marking) e ∙ marking_number)

-- ---- A program that inherits nothing
-- the insertion lies between two positions that carry A: neither is the set that it answers empty, nor are the new positions bare
pub inherits_nothing : (s : Tanks) (r : Result Styles Refusal) → meaning s ≡ between → given_or (styles_of []) r ≡ styles_of (inserted_set_at (meaning s) 0 Plant 15 4) → given_or (styles_of []) r ≢ styles_of []
inherits_nothing s r e c wrong =
    let f : styles_of (A ∷ []) ≡ styles_of [] = sym (c ∙ ap styles_of (ap (λ (h : House). inserted_set_at h 0 Plant 15 4) e ∙ filling_set)) ∙ wrong in
    absurd (omega (arith, ap (λ (x : Styles). x.count) f))

pub inherits_nowhere : (s next : Tanks) (n : ℕ) → meaning s ≡ between → CalledAt s 0 filling n next → (tank_at (meaning next) 0).at 15 ≢ []
unfolding marks_at
inherits_nowhere s next n e c wrong =
    let f : (tank_at (meaning next) 0).at 15 ≡ A ∷ [] = ap (λ (h : House). (tank_at h 0).at 15) (c.is ∙ ap (λ (h : House). after_at h 0 filling) e) ∙ behind_at 15 in
    absurd (omega (arith, ap length (sym f ∙ wrong)))

-- ---- A program that accepts and edits nothing
-- after the first call position 10 carries A, which it did not before
pub edits_nothing : (s next : Tanks) (n : ℕ) → meaning s ≡ before → CalledAt s 0 marking n next → meaning next ≢ meaning s
unfolding marks_at opening accepted all_at sum_below fresh_view
edits_nothing s next n e c wrong =
    let f : between ≡ before = sym (c.is ∙ ap (λ (h : House). after_at h 0 marking) e) ∙ wrong ∙ e in
    absurd (omega (arith, ap length (sym (between_at_lem 10) ∙ ap (λ (h : House). (tank_at h 0).at 10) f)))

-- ---- A program that edits properly once, and afterwards only answers accepted
-- after both calls the house is not the one after the first: the tank is four positions longer
pub edits_once : (s last : Tanks) → meaning s ≡ before → Calls s (record { tank = 0; edit = marking } ∷ record { tank = 0; edit = filling } ∷ []) last → meaning last ≢ between
unfolding after_all
edits_once s last e c wrong =
    let f : behind ≡ between = sym (calls_mean c ∙ ap (λ (h : House). after_at (after_at h 0 marking) 0 filling) e) ∙ wrong in
    absurd (omega (arith, behind_length, between_length, ap (λ (h : House). (tank_at h 0).length) f))

-- ---- A program that invents a count
-- between the calls tank 0 holds three runs, position 15 carries one mark, and the tank has two anchors: no other count is allowed
pub invents_runs : (s : Tanks) (r : Count) → meaning s ≡ between → r ≡ counts (ask_number 0) (held (meaning s) 0) → (k : ℕ) → k ≢ 3 → r ≢ Count.Counts k
invents_runs s r e c k other wrong =
    let f : Count.Counts 3 ≡ Count.Counts k = sym (c ∙ ap Count.Counts (ap (λ (h : House). held h 0) e ∙ between_runs)) ∙ wrong in
    other (sym (ap (λ (x : Count). (count_said x).value) f))

pub invents_marks : (s : Tanks) (r : SetAsked) → meaning s ≡ between → r ≡ marks_asked (meaning s) 0 Plant 15 → (k : ℕ) → k ≢ 1 → r.styles.count ≢ k
unfolding marks_at position_refusal
invents_marks s r e c k other wrong =
    let q : position_refusal 15 (tank_at between 0) ≡ 0 = ap (λ (l : ℕ). cond (leb l 15) 4 0) between_length in
    let f : r ≡ set_of 0 (A ∷ []) = c ∙ ap (λ (h : House). marks_asked h 0 Plant 15) e ∙ ap (styles_at 15) between_shown ∙ ap₂ set_of q (between_at_lem 15) in
    other (sym wrong ∙ ap (λ (x : SetAsked). x.styles.count) f)

pub invents_anchors : (s : Tanks) (r : Listed) → meaning s ≡ between → r ≡ anchors_needed_asked (meaning s) 0 Plant → (k : ℕ) → k ≢ 2 → r.count ≢ k
invents_anchors s r e c k other wrong =
    other (sym wrong ∙ ap (λ (x : Listed). x.count) (c ∙ ap (λ (h : House). anchors_needed_asked h 0 Plant) e) ∙ ap (λ (v : View). length (anchors v)) between_shown ∙ between_anchors)
