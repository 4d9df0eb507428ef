-- A question of one tank on the parts of a state that it stands in: all heads, the pool, and the tank's own table.
use Rattle.std.specs.Prelude.{ℕ, ◌<◌, cond, List}
use Rattle.std.specs.Int.Bits.{bit_and}
use Rattle.runs.specs.Runs.{set_at}
use Rattle.styles.specs.declared.Party.{Party}
use Rattle.tank.specs.Rules.{View}
use Rattle.tanks.specs.declared.Head.{Head}
use Rattle.tanks.specs.declared.Run.{Run}
use Rattle.tanks.specs.declared.Table.{Table}
use Rattle.tanks.specs.House.{no_tank}
use Rattle.tanks.specs.Looks.{run_list, Stands, shown_in}

-- what a question asks: where there is such a tank, that it stands there
abbrev pub CanAsk : List Head → List Run → Table → ℕ → Type 0
CanAsk hs pool table t = t < 8 → Stands hs pool table t

-- its answer: what the question says of what the party is shown of the tank; of no such tank (refusal 1), what is handed in for that
abbrev pub ask_in : {R : Type 0} → List Head → List Run → Table → ℕ → Party → R → (View → R) → R
ask_in hs pool table t who refused asks = cond (no_tank t) refused (asks (shown_in hs pool table t who))

-- the bits of a mask that a position of tank t has
abbrev pub bits_in : ℕ → List Head → List Run → ℕ → ℕ → ℕ
bits_in own hs pool t p = bit_and (set_at (run_list hs pool t) p) own
