-- A tank put back, as a state: what the loop of `edit` makes, in one definition.
use Prim.Native.Nat.{ℕ, ◌+◌, ◌-◌}
use mathlib.Core.Bool.{cond}
use mathlib.Core.List.{List}
use lib.Dec.{ltb}
use lib.ListN.{get_or, set}
use Rattle.tank.specs.declared.Tank.{Tank}
use Rattle.tanks.specs.declared.Run.{Run}
use Rattle.tanks.specs.declared.Spots.{Spots}
use Rattle.tanks.specs.declared.Tanks.{Tanks}
use Rattle.tanks.specs.Pool.{no_run, head_of, table_in, spots_of}
use Rattle.tanks.proofs.LaidLaws.{laid}

-- a tank's k-th run
abbrev pub run_of : List ℕ → List ℕ → ℕ → Run
run_of lens sets k = record { len = get_or lens k 0; set = get_or sets k 0 }

-- the k-th run from there on after the tank has become x: x's runs, then those of the tanks behind it, then blanks
unfoldable pub run_from : List Run → Tank → ℕ → ℕ → ℕ → Run
run_from pool x from full k =
    cond (ltb k x.runs) (run_of x.lens x.sets k) (cond (ltb k full) (get_or pool (from + (k - x.runs)) no_run) no_run)

-- the pool with x's runs in the place of tank t's
abbrev pub pool_with : List Run → Spots → Tank → List Run
pool_with pool s x = laid pool s.at (run_from pool x s.from s.full) s.count

-- the state with x in the place of tank t
unfoldable pub puts : Tanks → ℕ → Tank → Tanks
puts s t x = record {
  settings = s.settings;
  heads = set s.heads t (head_of x);
  tables = set s.tables t (table_in x);
  pool = pool_with s.pool (spots_of s.heads t x.runs) x;
}
