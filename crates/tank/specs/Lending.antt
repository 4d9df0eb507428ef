-- A tank whose runs stand in lent arrays, and what an edit leaves there and beside them.
use Rattle.std.specs.Prelude.{Result, Ok, Err, Bool, ℕ, ◌<◌, ◌^◌, ◌≡◌, true, false, cond, List, length, take}
use Rattle.refusal.specs.declared.Refusal.{Refusal}
use Rattle.refusal.specs.Numbers.{number_of}
use Rattle.styles.specs.declared.Mark.{Mark}
use Rattle.styles.specs.Answers.{styles_of}
use Rattle.styles.specs.Bits.{pick}
use Rattle.styles.specs.Marks.{table_with}
use Rattle.runs.specs.Runs.{Spare}
use Rattle.tank.specs.declared.Tank.{Tank}
use Rattle.tank.specs.declared.lent.Outline.{Outline}
use Rattle.tank.specs.declared.lent.Left.{Left}
use Rattle.tank.specs.declared.lent.Tabled.{Tabled}
use Rattle.tank.specs.declared.lent.Tabled.TheVariants.{Same, Entered, Carried}
use Rattle.tank.specs.Rules.{Edit}
use Rattle.tank.specs.State.{table_of, Laid, Sound, Called}
use Rattle.tank.specs.Steps.{Trimmed}

-- the tank of an outline, two arrays of runs and a table
abbrev pub tank_on : Outline → List ℕ → List ℕ → List Mark → Tank
tank_on h lens sets table = record {
  touched = h.touched;
  length = h.length;
  runs = h.runs;
  marks = h.marks;
  lens = lens;
  sets = sets;
  table = table;
}

-- what becomes of a table whose first n places are marks
abbrev pub table_left : Tabled → ℕ → List Mark → List Mark
table_left Same n table = table
table_left (Entered i m) n table = table_with n i m table
table_left (Carried set) n table = (styles_of (pick (take n table) set)).marks

-- the bits of those that are left are bits of n marks
abbrev pub Fitting : ℕ → Tabled → Type 0
Fitting n Same = Unit {0}
Fitting n (Entered i m) = Unit {0}
Fitting n (Carried set) = set < 2 ^ n

-- what an edit leaves beside the runs, refused or not: 0 or the refusal's number, and the fields of `Left`
pub record Leaving : Type 0 where
  pub number : ℕ
  pub changed : Bool
  pub first : ℕ
  pub shown : ℕ
  pub length : ℕ
  pub runs : ℕ
  pub marks : ℕ
  pub table : Tabled

-- accepted
abbrev pub done_as : Left → Leaving
done_as r = record {
  number = 0;
  changed = r.changed;
  first = r.first;
  shown = r.shown;
  length = r.length;
  runs = r.runs;
  marks = r.marks;
  table = r.table;
}

-- the tank that an edit of t makes whose runs are in two arrays: it is touched
abbrev pub tank_made : Tank → List ℕ → List ℕ → Leaving → Tank
tank_made t lens sets r = record {
  touched = true;
  length = r.length;
  runs = r.runs;
  marks = r.marks;
  lens = lens;
  sets = sets;
  table = table_left r.table t.marks t.table;
}

-- the tank after an edit: as it was, where nothing has changed
abbrev pub tank_left : Tank → List ℕ → List ℕ → Leaving → Tank
tank_left t lens sets r = cond r.changed (tank_made t lens sets r) t

-- what is said where nothing has changed
abbrev pub kept_as : ℕ → ℕ → Outline → Leaving
kept_as number first h = record {
  number = number;
  changed = false;
  first = first;
  shown = 0;
  length = h.length;
  runs = h.runs;
  marks = h.marks;
  table = Same;
}

-- a refused edit has changed nothing
abbrev pub left_as : Outline → Result Left Refusal → Leaving
left_as h (Ok r) = done_as r
left_as h (Err refusal) = kept_as (number_of refusal) 0 h

-- what an edit of t asks: a tank that a caller holds, and blank arrays for the runs after it
pub record CanLend (t : Tank) (olens osets : List ℕ) : Type 0 where
  pub sound : Sound t
  pub olens_514 : length olens ≡ 514
  pub osets_514 : length osets ≡ 514
  pub blank : Spare olens osets 0

-- what an edit leaves of t, with the marks and the position that it answers
pub record Leaves (e : Edit) (t : Tank) (lens sets : List ℕ) (marks : List Mark) (first : ℕ) (r : Leaving) : Type 0 where
  pub called : Called e t r.number (tank_left t lens sets r)
  pub runs_are_lem : r.runs ≡ (tank_left t lens sets r).runs
  pub table_fits : Fitting t.marks r.table
  pub shown_fits : r.shown < 2 ^ t.marks
  pub styles_are : styles_of (pick (table_of t) r.shown) ≡ styles_of marks
  pub first_is : r.first ≡ first

-- a tank t whose sets have been trimmed where they stand
pub record TrimsTo (t : Tank) (first : ℕ) (sets : List ℕ) (r : Leaving) : Type 0 where
  pub trimmed : Trimmed t (tank_made t t.lens sets r)
  pub number_is : r.number ≡ 0
  pub changed_is : r.changed ≡ true
  pub table_fits : Fitting t.marks r.table
  pub shown_is : r.shown ≡ 0
  pub first_is : r.first ≡ first

-- whatever the lengths and the table that go with the sets
abbrev pub Trims : Outline → ℕ → List ℕ → List ℕ → Leaving → Type 0
Trims h first before after r =
    (lens : List ℕ) (table : List Mark) → Laid (tank_on h lens before table) → h.touched ≡ true → TrimsTo (tank_on h lens before table) first after r
