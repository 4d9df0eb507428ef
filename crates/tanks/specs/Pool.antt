-- How eight tanks stand in one state: a head and a table of marks for each, and their runs packed one tank after another.
use Rattle.std.specs.Prelude.{ℕ, ◌+◌, ◌-◌, ◌≤◌, ◌<◌, max, ◌≡◌, true, false, cond, List, [], ◌∷◌, ◌++◌, map, ltb, eqb, length, get_or, take, drop, replicate}
use Rattle.runs.specs.Positions.{sum_below}
use Rattle.styles.specs.Marks.{blank}
use Rattle.tank.specs.declared.Tank.{Tank}
use Rattle.tank.specs.Rules.{fresh_length}
use Rattle.tank.specs.State.{view, Formed}
use Rattle.tanks.specs.declared.Setting.{Setting}
use Rattle.tanks.specs.declared.Head.{Head}
use Rattle.tanks.specs.declared.Run.{Run}
use Rattle.tanks.specs.declared.Spots.{Spots}
use Rattle.tanks.specs.declared.Table.{Table}
use Rattle.tanks.specs.declared.Tanks.{Tanks}
use Rattle.tanks.specs.Settings.{accepted, limit_of, claims}
use Rattle.tanks.specs.House.{House}

-- a blank place of the pool
abbrev pub no_run : Run
no_run = record { len = 0; set = 0 }

-- what stands where there is no tank
abbrev pub no_head : Head
no_head = record { touched = false; length = 0; runs = 0; marks = 0 }

-- and for its marks: a table with none
abbrev pub no_table : Table
no_table = record { marks = [] }

-- how many runs tank t holds, by its head
abbrev pub runs_in : List Head → ℕ → ℕ
runs_in hs t = (get_or hs t no_head).runs

-- how many runs the tanks below t hold: where tank t's begin
abbrev pub runs_below : List Head → ℕ → ℕ
runs_below hs t = sum_below (runs_in hs) t

-- the runs of tank t in the pool
abbrev pub own_runs : List Head → List Run → ℕ → List Run
own_runs hs pool t = take (runs_in hs t) (drop (runs_below hs t) pool)

-- numbers with zeros behind them, 514 in all
abbrev pub zero_filled : List ℕ → List ℕ
zero_filled ns = ns ++ replicate (514 - length ns) 0

-- the lengths of tank t's runs, and zeros behind them
abbrev pub lens_in : List Head → List Run → ℕ → List ℕ
lens_in hs pool t = zero_filled (map (λ r. r.len) (own_runs hs pool t))

-- their sets likewise
abbrev pub sets_in : List Head → List Run → ℕ → List ℕ
sets_in hs pool t = zero_filled (map (λ r. r.set) (own_runs hs pool t))

-- tank t on its own: its head, its runs' lengths and sets with zeros behind them, and its marks
unfoldable pub tank_in : List Head → List Run → Table → ℕ → Tank
tank_in hs pool table t = record {
  touched = (get_or hs t no_head).touched;
  length = (get_or hs t no_head).length;
  runs = runs_in hs t;
  marks = (get_or hs t no_head).marks;
  lens = lens_in hs pool t;
  sets = sets_in hs pool t;
  table = table.marks;
}

-- tank t of a state, on its own
unfoldable pub tank_of : Tanks → ℕ → Tank
tank_of s t = tank_in s.heads s.pool (get_or s.tables t no_table) t

-- the tanks' numbers
abbrev pub tank_numbers : List ℕ
tank_numbers = 0 ∷ 1 ∷ 2 ∷ 3 ∷ 4 ∷ 5 ∷ 6 ∷ 7 ∷ []

-- what a state means: its settings, and each tank by its positions
unfoldable pub meaning : Tanks → House
meaning s = record { settings = s.settings; tanks = map (λ t. view (tank_of s t)) tank_numbers }

-- what holds of every state: settings that keep the rule, tanks in form within their limits, the sum within 512, blanks behind the last run
pub record Sound (s : Tanks) : Type 0 where
  pub settings_8 : length s.settings ≡ 8
  pub heads_8 : length s.heads ≡ 8
  pub tables_8 : length s.tables ≡ 8
  pub pool_512 : length s.pool ≡ 512
  pub rule : accepted s.settings ≡ true
  pub limits : (t : ℕ) → t < 8 → runs_in s.heads t ≤ limit_of s.settings t
  pub sum : claims s.settings (runs_in s.heads) 8 ≤ 512
  pub each : (t : ℕ) → t < 8 → Formed (tank_of s t)
  pub spare : (k : ℕ) → runs_below s.heads 8 ≤ k → get_or s.pool k no_run ≡ no_run

-- ---- A tank put back
-- a tank's head
abbrev pub head_of : Tank → Head
head_of x = record { touched = x.touched; length = x.length; runs = x.runs; marks = x.marks }

-- its table
abbrev pub table_in : Tank → Table
table_in x = record { marks = x.table }

-- where tank t's runs begin and those behind it; how many runs there are from its place on once it holds m, and how many places that
-- touches; how many are behind it, and how many places behind its own are to be written, none where it holds as many as before; whether those
-- behind it move up
abbrev pub spots_of : List Head → ℕ → ℕ → Spots
spots_of hs t m = record {
  at = runs_below hs t;
  from = runs_below hs t + runs_in hs t;
  full = m + (runs_below hs 8 - (runs_below hs t + runs_in hs t));
  count = max m (runs_in hs t) + (runs_below hs 8 - (runs_below hs t + runs_in hs t));
  left = runs_below hs 8 - (runs_below hs t + runs_in hs t);
  behind = cond (eqb m (runs_in hs t)) 0 (max m (runs_in hs t) + (runs_below hs 8 - (runs_below hs t + runs_in hs t)) - m);
  grows = ltb (runs_below hs t + runs_in hs t) (runs_below hs t + m);
}

-- ---- Opening
-- eight fresh tanks, packed
unfoldable pub freshly : List Setting → Tanks
freshly st = record {
  settings = st;
  heads = replicate 8 (record { touched = false; length = fresh_length; runs = 1; marks = 0 });
  tables = replicate 8 (record { marks = replicate 64 blank });
  pool = replicate 8 (record { len = fresh_length; set = 0 }) ++ replicate 504 no_run;
}
