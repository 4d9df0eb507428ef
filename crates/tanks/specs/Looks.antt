-- What the looks at a tank promise and ask: it is read where it stands, its runs in the pool and its marks in its table.
use Rattle.std.specs.Prelude.{ℕ, suc, ◌≤◌, ◌<◌, ◌^◌, Bool, List, eqb}
use Rattle.std.specs.Int.Bits.{bit_and}
use Rattle.styles.specs.declared.Party.{Party}
use Rattle.runs.specs.Runs as runs
use Rattle.tank.specs.Rules.{View, shown_to}
use Rattle.tank.specs.State.{view, Formed}
use Rattle.tanks.specs.declared.Head.{Head}
use Rattle.tanks.specs.declared.Run.{Run}
use Rattle.tanks.specs.declared.Table.{Table}
use Rattle.tanks.specs.Pool.{runs_in, runs_below, lens_in, sets_in, tank_in}

-- tank t's runs, the last first
abbrev pub run_list : List Head → List Run → ℕ → List runs.Run
run_list hs pool t = runs.runs (lens_in hs pool t) (sets_in hs pool t) (runs_in hs t)

-- position p and the next have the same bits of a mask
abbrev pub alike_by : ℕ → List runs.Run → ℕ → Bool
alike_by own rs p = eqb (bit_and (runs.set_at rs p) own) (bit_and (runs.set_at rs (suc p)) own)

-- what a walk over them asks
pub record CanWalk (hs : List Head) (pool : List Run) (t : ℕ) : Type 0 where
  pub inside : t < 8
  pub room : runs_below hs 8 ≤ 512
  pub canon : runs.Canon (run_list hs pool t)
  pub small : runs.total (run_list hs pool t) < 2 ^ 63

-- a range of some positions, and all of them the tank's
pub record Within (hs : List Head) (pool : List Run) (t from to : ℕ) : Type 0 where
  pub some : from < to
  pub reach : to ≤ runs.total (run_list hs pool t)

-- the head, the runs and the table of a tank in form
pub record Stands (hs : List Head) (pool : List Run) (table : Table) (t : ℕ) : Type 0 where
  pub inside : t < 8
  pub room : runs_below hs 8 ≤ 512
  pub formed : Formed (tank_in hs pool table t)

-- what a party is shown of it
abbrev pub shown_in : List Head → List Run → Table → ℕ → Party → View
shown_in hs pool table t who = shown_to who (view (tank_in hs pool table t))
