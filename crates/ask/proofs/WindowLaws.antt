-- A walk over a tank's runs where they stand fills windows by the bits of a mask; and by the party's bits they are the windows over what it is shown.
use Prim.Native.Nat.{ℕ, ◌+◌, ◌≤◌, ◌<◌, ◌^◌, min, max}
use mathlib.Core.Path.{◌≡◌, ap, ◌∙◌}
use mathlib.Core.Bool.{cond}
use mathlib.Core.List.{List}
use native.Mathlib.Omega.{arith}
use lib.Bits.{bit_and, and_zero_l}
use lib.Dec.{ltb}
use lib.ListN.{length, get_or, take, set}
use Rattle.styles.specs.declared.Party.{Party}
use Rattle.styles.specs.declared.Value.TheVariants.{Null}
use Rattle.styles.specs.Bits.{MaskOf}
use Rattle.styles.specs.Marks.{is_of, key_is, value_is}
use Rattle.runs.specs.Runs as runs
use Rattle.runs.proofs.Laws.{at_past}
use Rattle.windows.specs.Windows.{list_from, first_of_set, over_window, windows}
use Rattle.windows.proofs.WalkLaws.{Filling, filling_none, passed, closed_within, closed_behind, filling_all}
use Rattle.windows.proofs.ShownLaws.{windows_shown}
use Rattle.tank.proofs.Unique.{table_length}
use Rattle.tanks.specs.declared.Head.{Head}
use Rattle.tanks.specs.declared.Run.{Run}
use Rattle.tanks.specs.declared.Table.{Table}
use Rattle.tanks.specs.Pool.{no_run, no_head, runs_in, runs_below, tank_in}
use Rattle.tanks.specs.Looks.{run_list, CanWalk, Stands, shown_in}
use Rattle.tanks.proofs.LookLaws.{len_from, Walked, walk_on, walk_begins, few_in, sorted_in, seen_marks, shown_length}
use Rattle.tanks.proofs.RangeLaws.{runs_from, from_in, on_run, walked_all, total_in}
use Rattle.tanks.proofs.ReachLaws.{bits_from}
use Rattle.ask.specs.Parts.{bits_in}

-- ---- the walk
-- i of n runs are passed and end at `begun`; w windows are written, and of the next, which begins at `from`, the best key so far is known
pub record Fills (pool : List Run) (at n own : ℕ) (keyed : List ℕ) (nulls start k : ℕ) (entry out : List ℕ) (i begun from best w : ℕ) : Type 0 where
  pub walked : Walked pool at n i begun
  pub filling : Filling keyed nulls (bits_from pool at n own) start k entry out begun from best w

module _ {hs : List Head} {pool : List Run} {t at : ℕ} (can : CanWalk hs pool t) (e : at ≡ runs_below hs t) (own : ℕ) where
  pub fill_begins : (keyed : List ℕ) (nulls start k : ℕ) (entry : List ℕ) → start < 2 ^ 64
      → Fills pool at (runs_in hs t) own keyed nulls start k entry entry 0 0 start 8 0
  fill_begins keyed nulls start k entry h = record { walked = walk_begins hs pool t can e; filling = filling_none keyed nulls _ start k entry h }

  fits : runs.total (runs_from pool at (runs_in hs t)) ≤ 18446744073709551615
  fits = omega (arith, can.small, ap runs.total (from_in hs pool t e))

  -- past the last run there are no bits
  none : (p : ℕ) → runs.total (runs_from pool at (runs_in hs t)) ≤ p → bits_from pool at (runs_in hs t) own p ≡ 0
  none p h = ap (λ (x : ℕ). bit_and x own) (at_past (runs_from pool at (runs_in hs t)) p h) ∙ and_zero_l own

  module _ {keyed : List ℕ} {nulls start k : ℕ} {entry out : List ℕ} {i begun from best w : ℕ} (f : Fills pool at (runs_in hs t) own keyed nulls start k entry out i begun from best w) where
    module _ {to : ℕ} (to_is : to ≡ min (from + k) 18446744073709551615) where
      module _ (h : i < runs_in hs t) {x : ℕ}
          (is : x ≡ min best (cond (ltb (max from begun) (min to (begun + len_from pool at i))) (first_of_set keyed nulls (bit_and (get_or pool (at + i) no_run).set own)) 8)) where
        on : (p : ℕ) → begun ≤ p → p < begun + len_from pool at i → bits_from pool at (runs_in hs t) own p ≡ bit_and (get_or pool (at + i) no_run).set own
        on p a b = ap (λ (y : ℕ). bit_and y own) (on_run f.walked h p a b)

        -- a run that ends within the window is passed
        pub fill_passed : begun + len_from pool at i ≤ to → Fills pool at (runs_in hs t) own keyed nulls start k entry out (i + 1) (begun + len_from pool at i) from x w
        fill_passed l = record { walked = walk_on f.walked h; filling = passed f.filling to_is (omega arith) on l is }

        -- one that reaches further closes it
        pub fill_within : w < length entry → to < begun + len_from pool at i → Fills pool at (runs_in hs t) own keyed nulls start k entry (set out w x) i begun to 8 (w + 1)
        fill_within m l = record { walked = f.walked; filling = closed_within f.filling to_is (runs.total (runs_from pool at (runs_in hs t))) fits none m (omega arith) on l is }

      -- behind the last run
      pub fill_behind : runs_in hs t ≤ i → w < length entry → Fills pool at (runs_in hs t) own keyed nulls start k entry (set out w best) i begun to 8 (w + 1)
      fill_behind h m =
          let all = walked_all f.walked h in
          record { walked = f.walked; filling = closed_behind f.filling to_is (runs.total (runs_from pool at (runs_in hs t))) fits none m (λ p a. none p (omega arith)) }

    -- all are written
    pub fill_all : length out ≤ w → out ≡ list_from (over_window keyed nulls (bits_in own hs pool t) start k) 0 (length entry)
    fill_all h = filling_all f.filling h ∙ ap (λ (rs : List runs.Run). list_from (over_window keyed nulls (λ p. bit_and (runs.set_at rs p) own) start k) 0 (length entry)) (from_in hs pool t e)

-- ---- what a party is shown
module _ {hs : List Head} {pool : List Run} {table : Table} {t : ℕ} (ok : Stands hs pool table t) (who : Party) {own nulls : ℕ}
    (m : MaskOf (is_of who) (take (get_or hs t no_head).marks table.marks) own) (z : MaskOf (value_is Null) (take (get_or hs t no_head).marks table.marks) nulls) where
  marks_few : length (take (get_or hs t no_head).marks table.marks) ≤ 64
  unfolding tank_in
  marks_few = omega (arith, few_in ok, table_length ok.formed.laid)

  seen_none : (p : ℕ) → (shown_in hs pool table t who).length ≤ p → bits_in own hs pool t p ≡ 0
  seen_none p h = ap (λ (x : ℕ). bit_and x own) (at_past (run_list hs pool t) p (omega (arith, h, shown_length hs pool table t who, total_in ok))) ∙ and_zero_l own

  pub windows_there : (keys keyed : List ℕ) → ((j : ℕ) → j < 8 → MaskOf (key_is (get_or keys j 0)) (take (get_or hs t no_head).marks table.marks) (get_or keyed j 0)) → (start k n : ℕ)
      → list_from (over_window keyed nulls (bits_in own hs pool t) start k) 0 n ≡ windows (shown_in hs pool table t who) keys start k n
  windows_there keys keyed ks =
      windows_shown (shown_in hs pool table t who) (take (get_or hs t no_head).marks table.marks) (bits_in own hs pool t) (sorted_in ok) marks_few
      (λ p. seen_marks hs pool table t who own p m) seen_none z keys keyed ks
