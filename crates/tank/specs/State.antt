-- One tank in a struct by value: what it means, and what holds of a sound one.
use Rattle.std.specs.Prelude.{ℕ, ◌-◌, ◌≤◌, ◌<◌, ◌^◌, ◌≡◌, Bool, false, List, [], ◌∷◌, length, get_or, take}
use Rattle.styles.specs.declared.Mark.{Mark}
use Rattle.styles.specs.declared.Party.TheVariants.{Lab}
use Rattle.styles.specs.Marks.{Sorted, blank, of_party}
use Rattle.styles.specs.Values.{value_nan}
use Rattle.styles.specs.Bits.{pick}
use Rattle.runs.specs.Runs.{Run, run, runs, total, set_at, Canon, Spare}
use Rattle.runs.specs.Gather.{gather}
use Rattle.tank.specs.declared.Tank.{Tank}
use Rattle.tank.specs.Rules.{View, fresh_length, Edit, needs, refusal, after_call}

-- the tank's runs
abbrev pub runs_of : Tank → List Run
runs_of t = runs t.lens t.sets t.runs

-- the marks of the tank's table
abbrev pub table_of : Tank → List Mark
table_of t = take t.marks t.table

-- what runs over a table mean, by position
abbrev pub view_of : Bool → ℕ → List Mark → List Run → View
view_of b l ms rs = record { length = l; touched = b; at = λ p. pick ms (set_at rs p) }

-- what the tank means
unfoldable pub view : Tank → View
view t = view_of t.touched t.length (table_of t) (runs_of t)

-- no value of the marks is NaN
unfoldable pub Numbers : List Mark → Type 0
Numbers [] = Unit {0}
Numbers (m ∷ ms) = (value_nan m.value ≡ false) × Numbers ms

-- what is kept of a tank's marks: at most 64, and where the lab has one both parties' needs are at most 64. A tank of 49 to 64 plant marks
-- and no mark of the lab's keeps it, and admits no mark
pub record Roomy (ms : List Mark) : Type 0 where
  pub few : length ms ≤ 64
  pub lab : (of_party Lab ms ≡ [] → ⊥) → needs ms ≤ 64

-- runs in joined form over a sorted table, blank behind both; while an edit is under way the table may have marks that no position carries.
-- There are 514 places for runs: the 512 that all tanks share, and two that an edit may add before it is judged
pub record Laid (t : Tank) : Type 0 where
  pub most : t.runs ≤ 514
  pub canon : Canon (runs_of t)
  pub sum : t.length ≡ total (runs_of t)
  pub small : t.length < 2 ^ 63
  pub spare : Spare t.lens t.sets t.runs
  pub lens_514 : length t.lens ≡ 514
  pub sets_514 : length t.sets ≡ 514
  pub few : t.marks ≤ 64
  pub table_64 : length t.table ≡ 64
  pub sorted : Sorted (table_of t)
  pub numbers : Numbers (table_of t)
  pub roomy : Roomy (table_of t)
  pub blanks : (i : ℕ) → t.marks ≤ i → get_or t.table i blank ≡ blank
  pub inside : gather (runs_of t) < 2 ^ t.marks

-- a tank in the one form that its meaning has: the table has just the marks that some position carries. An edit may leave two runs too many
pub record Formed (t : Tank) : Type 0 where
  pub laid : Laid t
  pub whole : gather (runs_of t) ≡ 2 ^ t.marks - 1
  pub fresh : t.touched ≡ false → runs_of t ≡ run fresh_length 0 ∷ []

-- what a caller holds: a tank in form, of no more runs than the eight tanks share
pub record Sound (t : Tank) : Type 0 where
  pub formed : Formed t
  pub within : t.runs ≤ 512

-- what a call hands back, for every edit and every argument: the refusal's number or 0, and the tank after it
pub record Called (e : Edit) (t : Tank) (number : ℕ) (u : Tank) : Type 0 where
  pub number_is : number ≡ refusal e (view t)
  pub formed : Formed u
  pub is : view u ≡ after_call e (view t)
