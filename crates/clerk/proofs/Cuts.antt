-- However an input is cut into reads, a run comes to the same place and says the same.
use mathlib.Core.Path.{◌≡◌, refl, sym, ap, ap₂, ◌∙◌}
use mathlib.Core.Bool.{Bool, true, false, cond}
use mathlib.Core.List.{List, [], ◌∷◌, ◌++◌, append_assoc, append-nil, flatten, foldl, foldl-append}
use Prim.Native.Nat.{ℕ}
use native.Mathlib.Omega.{arith}
use lib.Dec.{eqb}
use lib.ListN.{length}
use borrow.Author.Tests.{ne_eqb}
use Rattle.answers.specs.Waiting.{Pieces, Waiting, with, with_all}
use Rattle.clerk.specs.Course.{Course, on_brought, after_part, after_byte, after_bytes, ended_as, ending_at, at_end, after_read, written, written_after, after_reads}
use Rattle.clerk.specs.Course.{Whereabouts, where_of, said_part, said_byte, said_by, said_bytes, said_ending, said_at_end, said_read, said_reads, NoneEmpty}
use Rattle.clerk.proofs.Bytes.{cut_anywhere, over_stays, silent_bytes}

-- ---- What is said is what is put into the output
-- by whether the run is over
waits_by : (over : Bool) (x y : Course) (said : Pieces) → y.waits ≡ with_all x.waits said → (cond over x y).waits ≡ with_all x.waits (cond over [] said)
unfolding with_all
waits_by true x y said e = refl
waits_by false x y said e = e

-- one byte puts what it says
waits_byte : (x : Course) (byte : ℕ) → (after_byte x byte).waits ≡ with_all x.waits (said_byte x byte)
unfolding after_byte said_byte on_brought
waits_byte x byte = waits_by x.over x (after_part x (byte ∷ [])) (said_part x (byte ∷ [])) refl

-- bytes put into the output what they say
pub waits_bytes : (x : Course) (input : List ℕ) → (after_bytes x input).waits ≡ with_all x.waits (said_bytes x input)
unfolding after_bytes said_bytes with_all
waits_bytes x [] = refl
waits_bytes x (byte ∷ more) =
    waits_bytes (after_byte x byte) more
    ∙ ap (λ (w : Waiting). with_all w (said_bytes (after_byte x byte) more)) (waits_byte x byte)
    ∙ sym (foldl-append with x.waits (said_byte x byte) (said_bytes (after_byte x byte) more))

-- the end of the input puts what it says
pub waits_end : (x : Course) → (at_end x).waits ≡ with_all x.waits (said_at_end x)
unfolding at_end said_at_end
waits_end x = waits_by x.over x (ended_as (ending_at x) x) (said_ending (ending_at x) x.stage.lines) refl

-- a read that is not empty counts by its bytes
pub some_by : {A : Type 0} (a b : A) (input : List ℕ) → (length input ≡ 0 → ⊥) → cond (eqb (length input) 0) a b ≡ b
some_by a b input n = ap (λ (none : Bool). cond none a b) (ne_eqb (length input) 0 n)

-- a read puts what it says, whatever it gave
pub waits_read : (x : Course) (input : List ℕ) → (after_read x input).waits ≡ with_all x.waits (said_read x input)
waits_read x [] = waits_end x
waits_read x (byte ∷ more) =
    ap (λ (y : Course). y.waits) (some_by _ _ (byte ∷ more) λ e. omega arith)
    ∙ waits_bytes x (byte ∷ more)
    ∙ ap (with_all x.waits) (sym (some_by _ _ (byte ∷ more) λ e. omega arith))

-- ---- What waits makes no difference
-- a run at a place, with this output waiting
abbrev placed : Whereabouts → Waiting → Course
placed p w = record { house = p.house; side = p.side; stage = p.stage; waits = w; over = p.over }

-- what is the same for all output that waits is the same for all runs at one place
by_place : {A : Type 0} (f : Course → A) → ((p : Whereabouts) (v w : Waiting) → f (placed p v) ≡ f (placed p w)) → (x y : Course) → where_of x ≡ where_of y → f x ≡ f y
by_place f same x y e = same (where_of x) x.waits y.waits ∙ ap (λ (p : Whereabouts). f (placed p y.waits)) e

-- by whether the run is over
place_by : (over : Bool) (x y z u : Course) → where_of x ≡ where_of y → where_of z ≡ where_of u → where_of (cond over x z) ≡ where_of (cond over y u)
place_by true x y z u e f = e
place_by false x y z u e f = f

-- where one byte leads
place_byte : (byte : ℕ) (x y : Course) → where_of x ≡ where_of y → where_of (after_byte x byte) ≡ where_of (after_byte y byte)
unfolding after_byte on_brought
place_byte byte =
    by_place (λ (x : Course). where_of (after_byte x byte)) λ p v w.
    place_by p.over (placed p v) (placed p w) (after_part (placed p v) (byte ∷ [])) (after_part (placed p w) (byte ∷ [])) refl refl

-- what it says
said_byte_lem : (byte : ℕ) (x y : Course) → where_of x ≡ where_of y → said_byte x byte ≡ said_byte y byte
unfolding said_byte
said_byte_lem byte = by_place (λ (x : Course). said_byte x byte) λ p v w. refl

-- where bytes lead depends on the place alone
pub place_bytes : (input : List ℕ) (x y : Course) → where_of x ≡ where_of y → where_of (after_bytes x input) ≡ where_of (after_bytes y input)
unfolding after_bytes
place_bytes [] x y e = e
place_bytes (byte ∷ more) x y e = place_bytes more (after_byte x byte) (after_byte y byte) (place_byte byte x y e)

-- and so does what they say
pub said_bytes_lem : (input : List ℕ) (x y : Course) → where_of x ≡ where_of y → said_bytes x input ≡ said_bytes y input
unfolding said_bytes
said_bytes_lem [] x y e = refl
said_bytes_lem (byte ∷ more) x y e = ap₂ ◌++◌ (said_byte_lem byte x y e) (said_bytes_lem more (after_byte x byte) (after_byte y byte) (place_byte byte x y e))

-- where the end of the input leads depends on the place alone
pub place_end : (x y : Course) → where_of x ≡ where_of y → where_of (at_end x) ≡ where_of (at_end y)
unfolding at_end
place_end =
    by_place (λ (x : Course). where_of (at_end x)) λ p v w.
    place_by p.over (placed p v) (placed p w) (ended_as (ending_at (placed p v)) (placed p v)) (ended_as (ending_at (placed p w)) (placed p w)) refl refl

-- and so does what it says
said_end : (x y : Course) → where_of x ≡ where_of y → said_at_end x ≡ said_at_end y
unfolding said_at_end
said_end = by_place said_at_end λ p v w. refl

-- ---- Cuts
-- what steps say in two parts
pub said_append : {X A B : Type 0} (step : X → A → X) (says : X → A → List B) (x : X) (a b : List A) → said_by step says x (a ++ b) ≡ said_by step says x a ++ said_by step says (foldl step x a) b
said_append step says x [] b = refl
said_append {B = B} step says x (c ∷ a) b = ap (λ (t : List B). says x c ++ t) (said_append step says (step x c) a b) ∙ sym (append_assoc (says x c) (said_by step says (step x c) a) (said_by step says (foldl step (step x c) a) b))

-- reads lead where their bytes lead
place_reads : (x : Course) (inputs : List (List ℕ)) → NoneEmpty inputs → where_of (after_reads x inputs) ≡ where_of (after_bytes x (flatten inputs))
unfolding after_reads after_bytes flatten NoneEmpty
place_reads x [] some = refl
place_reads x (input ∷ inputs) some =
    ap (λ (y : Course). where_of (after_reads (written y) inputs)) (some_by _ _ input λ e. omega (arith, e, some.0))
    ∙ place_reads (written (after_bytes x input)) inputs some.1
    ∙ place_bytes (flatten inputs) (written (after_bytes x input)) (after_bytes x input) refl
    ∙ ap where_of (sym (cut_anywhere x input (flatten inputs)))

-- and say what their bytes say
said_reads_lem : (x : Course) (inputs : List (List ℕ)) → NoneEmpty inputs → said_reads x inputs ≡ said_bytes x (flatten inputs)
unfolding said_reads said_bytes after_bytes flatten NoneEmpty
said_reads_lem x [] some = refl
said_reads_lem x (input ∷ inputs) some =
    let n : length input ≡ 0 → ⊥ = λ e. omega (arith, e, some.0) in
    ap₂ (λ (t : Pieces) (y : Course). t ++ said_reads (written y) inputs) (some_by _ _ input n) (some_by _ _ input n)
    ∙ ap (λ (t : Pieces). said_bytes x input ++ t) (said_reads_lem (written (after_bytes x input)) inputs some.1 ∙ said_bytes_lem (flatten inputs) (written (after_bytes x input)) (after_bytes x input) refl)
    ∙ sym (said_append after_byte said_byte x input (flatten inputs))

-- an input cut into reads, each written out before the next, comes to the same place and says the same as its bytes one after another
pub cut_reads : (x : Course) (inputs : List (List ℕ)) → NoneEmpty inputs → (where_of (after_reads x inputs) ≡ where_of (after_bytes x (flatten inputs))) × (said_reads x inputs ≡ said_bytes x (flatten inputs))
cut_reads x inputs some = (place_reads x inputs some, said_reads_lem x inputs some)

-- the last read, which is empty
last_place : (x : Course) → where_of (after_reads x ([] ∷ [])) ≡ where_of (at_end x)
unfolding after_reads
last_place x = refl

-- what it says
last_said : (x : Course) → said_reads x ([] ∷ []) ≡ said_at_end x
unfolding said_reads
last_said x = append-nil (said_at_end x)

-- the same with the end of the input behind
pub cut_run_lem : (x : Course) (inputs : List (List ℕ)) → NoneEmpty inputs → (where_of (after_reads x (inputs ++ ([] ∷ []))) ≡ where_of (at_end (after_bytes x (flatten inputs)))) × (said_reads x (inputs ++ ([] ∷ [])) ≡ said_bytes x (flatten inputs) ++ said_at_end (after_bytes x (flatten inputs)))
unfolding after_reads said_reads
cut_run_lem x inputs some =
    let e = cut_reads x inputs some in (
      ap where_of (foldl-append written_after x inputs ([] ∷ [])) ∙ last_place (after_reads x inputs) ∙ place_end (after_reads x inputs) (after_bytes x (flatten inputs)) e.0,
      said_append written_after said_read x inputs ([] ∷ []) ∙ ap₂ ◌++◌ e.1 (last_said (after_reads x inputs) ∙ said_end (after_reads x inputs) (after_bytes x (flatten inputs)) e.0),
    )

-- ---- A run that is over
-- a read more changes nothing
pub over_read : (x : Course) (input : List ℕ) → x.over ≡ true → after_read x input ≡ x
unfolding at_end
over_read x [] e = ap (λ (b : Bool). cond b x (ended_as (ending_at x) x)) e
over_read x (byte ∷ more) e = some_by _ _ (byte ∷ more) (λ n. omega arith) ∙ over_stays x (byte ∷ more) e

-- a read says nothing
silent_read : (x : Course) (input : List ℕ) → x.over ≡ true → said_read x input ≡ []
unfolding said_at_end
silent_read x [] e = ap (λ (b : Bool). cond b [] (said_ending (ending_at x) x.stage.lines)) e
silent_read x (byte ∷ more) e = some_by _ _ (byte ∷ more) (λ n. omega arith) ∙ silent_bytes x (byte ∷ more) e

-- reads that would come when the run is over change nothing and say nothing
pub over_silent : (x : Course) (inputs : List (List ℕ)) → x.over ≡ true → (where_of (after_reads x inputs) ≡ where_of x) × (said_reads x inputs ≡ [])
unfolding after_reads said_reads
over_silent x [] e = (refl, refl)
over_silent x (input ∷ inputs) e =
    let stays = over_read x input e in
    let more = over_silent (written_after x input) inputs (ap (λ (y : Course). y.over) stays ∙ e) in
    (more.0 ∙ ap where_of stays, ap₂ ◌++◌ (silent_read x input e) more.1)

-- so a run may stop reading as soon as it is over: it comes to the same place and says the same as if it had read on
pub stops_early : (x : Course) (inputs more : List (List ℕ)) → (after_reads x inputs).over ≡ true → (where_of (after_reads x (inputs ++ more)) ≡ where_of (after_reads x inputs)) × (said_reads x (inputs ++ more) ≡ said_reads x inputs)
unfolding after_reads said_reads
stops_early x inputs more e =
    let rest = over_silent (after_reads x inputs) more e in
    (ap where_of (foldl-append written_after x inputs more) ∙ rest.0, said_append written_after said_read x inputs more ∙ ap (λ (t : Pieces). said_reads x inputs ++ t) rest.1 ∙ append-nil (said_reads x inputs))

-- ---- Two ways to cut one input
module _ (x : Course) (these those : List (List ℕ)) (some : NoneEmpty these) (others : NoneEmpty those) (same : flatten these ≡ flatten those) where
  -- both lead to the same place and say the same
  pub cuts_agree : (where_of (after_reads x these) ≡ where_of (after_reads x those)) × (said_reads x these ≡ said_reads x those)
  cuts_agree =
      let e = cut_reads x these some in
      let f = cut_reads x those others in
      (e.0 ∙ ap (λ (t : List ℕ). where_of (after_bytes x t)) same ∙ sym f.0, e.1 ∙ ap (said_bytes x) same ∙ sym f.1)

  -- and so they do with the end of the input behind
  pub runs_agree : (where_of (after_reads x (these ++ ([] ∷ []))) ≡ where_of (after_reads x (those ++ ([] ∷ [])))) × (said_reads x (these ++ ([] ∷ [])) ≡ said_reads x (those ++ ([] ∷ [])))
  runs_agree =
      let e = cut_run_lem x these some in
      let f = cut_run_lem x those others in (
        e.0 ∙ ap (λ (t : List ℕ). where_of (at_end (after_bytes x t))) same ∙ sym f.0,
        e.1 ∙ ap (λ (t : List ℕ). said_bytes x t ++ said_at_end (after_bytes x t)) same ∙ sym f.1,
      )
