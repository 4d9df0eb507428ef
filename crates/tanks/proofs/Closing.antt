-- A walk over a tank's runs that keeps the stretch it is in and closes it where the bits change: what it has told is the list up to where that stretch begins.
use Prim.Native.Nat.{ℕ, suc, ◌+◌, ◌≤◌, ◌<◌, min, max}
use mathlib.Core.Path.{◌≡◌, sym, ap, ◌∙◌}
use mathlib.Core.List.{List, [], ◌++◌}
use native.Mathlib.Omega.{arith}
use lib.Bits.{bit_and}
use lib.Count.{ones}
use lib.ListN.{length, get_or, take, drop, length-append}
use Rattle.styles.specs.declared.Party.{Party}
use Rattle.styles.specs.Bits.{MaskOf}
use Rattle.styles.specs.Marks.{is_of}
use Rattle.styles.proofs.CountLaws.{pick_length}
use Rattle.runs.specs.Positions.{as_numbers}
use Rattle.runs.specs.Runs as runs
use Rattle.runs.specs.Stretches.{entry, in_front}
use Rattle.runs.proofs.ListLaws.{front_write, front_length}
use Rattle.runs.proofs.PositionLaws.{at_ext}
use Rattle.tank.proofs.Unique.{table_length}
use Rattle.tanks.specs.declared.Head.{Head}
use Rattle.tanks.specs.declared.Run.{Run}
use Rattle.tanks.specs.declared.Table.{Table}
use Rattle.tanks.specs.Pool.{no_run, no_head, runs_in, runs_below, tank_in}
use Rattle.tanks.specs.Looks.{run_list, CanWalk, Stands, shown_in}
use Rattle.tanks.specs.Masked.{bit_list, mark_list, masked_list, CanList}
use Rattle.tanks.proofs.LookLaws.{len_from, Walked, walk_on, walk_begins, can_walk, seen_marks, seen_small}
use Rattle.tanks.proofs.RangeLaws.{from_in, some_from, walked_all, total_in, same_seen}
use Rattle.tanks.proofs.ReachLaws.{Level, bits_from, level_begins, level_on, level_new}
use Rattle.tanks.proofs.Stretched.{level_list, list_grows, list_empty}

-- ---- where the walk stands
-- i of n runs are passed and end at `end`; from `first` to there they have the bits `one` of a mask, and before `first` others
pub record In (pool : List Run) (at n own i end first one : ℕ) : Type 0 where
  pub walked : Walked pool at n i end
  pub begun : first ≤ end
  pub level : Level (bits_from pool at n own) first end one

-- the list of from .. to as far as `reach`
abbrev pub told_to : ℕ → ℕ → ℕ → List Run → ℕ → ℕ → ℕ → ℕ → List ℕ
told_to least from to pool at n own reach = bit_list least from (min to reach) (bits_from pool at n own)

module _ {hs : List Head} {pool : List Run} {t : ℕ} {at : ℕ} (can : CanWalk hs pool t) (e : at ≡ runs_below hs t) (own : ℕ) where
  pub in_begins : In pool at (runs_in hs t) own 0 0 0 0
  in_begins = record { walked = walk_begins hs pool t can e; begun = omega arith; level = level_begins _ }

  module _ {i end first one : ℕ} (w : In pool at (runs_in hs t) own i end first one) (h : i < runs_in hs t) where
    -- a run with the same bits
    pub in_same : bit_and (get_or pool (at + i) no_run).set own ≡ one → In pool at (runs_in hs t) own (i + 1) (end + len_from pool at i) first one
    in_same k =
        let b = w.begun in
        record { walked = walk_on w.walked h; begun = omega arith; level = level_on w.walked h (some_from hs pool t e can i h) own w.level w.begun k }

    -- one with others
    pub in_new : (bit_and (get_or pool (at + i) no_run).set own ≡ one → ⊥) → In pool at (runs_in hs t) own (i + 1) (end + len_from pool at i) end (bit_and (get_or pool (at + i) no_run).set own)
    in_new d = record { walked = walk_on w.walked h; begun = omega arith; level = level_new w.walked h (some_from hs pool t e can i h) own w.level d }

-- ---- what it has told
module _ {pool : List Run} {at n own i end first one : ℕ} (w : In pool at n own i end first one) (least from to : ℕ) where
  -- the stretch closed
  pub told_more : told_to least from to pool at n own end ≡ told_to least from to pool at n own first ++ entry least (max from first) (min to end) (ones one)
  told_more = level_list (bits_from pool at n own) w.level from least to w.begun

  pub told_length : length (told_to least from to pool at n own end) ≡ length (told_to least from to pool at n own first) + length (entry least (max from first) (min to end) (ones one))
  told_length = ap length told_more ∙ length-append (told_to least from to pool at n own first) (entry least (max from first) (min to end) (ones one))

pub told_none : (least from to : ℕ) (pool : List Run) (at n own : ℕ) → [] ≡ told_to least from to pool at n own 0
told_none least from to pool at n own = list_empty least from (bits_from pool at n own) to

module _ {hs : List Head} {pool : List Run} {t at to : ℕ} (can : CanList hs pool t to) (e : at ≡ runs_below hs t) (own least from : ℕ) where
  masked_from : bit_list least from to (bits_from pool at (runs_in hs t) own) ≡ masked_list least from to own hs pool t
  masked_from = ap (λ (rs : List runs.Run). bit_list least from to (λ p. bit_and (runs.set_at rs p) own)) (from_in hs pool t e)

  -- no more than the whole of it
  pub told_within : (reach : ℕ) → length (told_to least from to pool at (runs_in hs t) own reach) ≤ length (masked_list least from to own hs pool t)
  told_within reach = omega (arith, list_grows least from (bits_from pool at (runs_in hs t) own) (min to reach) to (omega arith), ap length masked_from)

  -- all of it
  pub told_all : {i end first one : ℕ} → In pool at (runs_in hs t) own i end first one → runs_in hs t ≤ i → told_to least from to pool at (runs_in hs t) own end ≡ masked_list least from to own hs pool t
  told_all {end = end} w h =
      let all = walked_all w.walked h in
      let r = can.reach in
      let z : min to end ≡ to = omega (arith, all, r, ap runs.total (from_in hs pool t e)) in
      ap (λ (p : ℕ). bit_list least from p (bits_from pool at (runs_in hs t) own)) z ∙ masked_from

-- ---- numbers written behind those told
pub placed : (xs es out₀ out : List ℕ) (at : ℕ) → at ≡ length xs → out ≡ in_front xs out₀ → length xs + length es ≤ length out₀
    → take at out ++ es ++ drop (at + length es) out ≡ in_front (xs ++ es) out₀
placed xs es out₀ out at e g h = rw (g, e) (front_write xs es out₀ h)

-- what stands in front leaves the length
pub kept : (xs out₀ out : List ℕ) → out ≡ in_front xs out₀ → length xs ≤ length out₀ → length out ≡ length out₀
kept xs out₀ out g h = ap length g ∙ front_length xs out₀ h

-- ---- the marks that a party is shown, by its bits
module _ {hs : List Head} {pool : List Run} {table : Table} {t : ℕ} (ok : Stands hs pool table t) (who : Party) {own : ℕ}
    (m : MaskOf (is_of who) (take (get_or hs t no_head).marks table.marks) own) where
  counted : (p : ℕ) → ones (bit_and (runs.set_at (run_list hs pool t) p) own) ≡ length ((shown_in hs pool table t who).at p)
  unfolding tank_in
  counted p =
      sym (pick_length (take (get_or hs t no_head).marks table.marks) (bit_and (runs.set_at (run_list hs pool t) p) own) (rw (table_length ok.formed.laid) (seen_small ok own p)))
      ∙ ap length (seen_marks hs pool table t who own p m)

  pub mask_list : (least from to : ℕ) → masked_list least from to own hs pool t ≡ mark_list least from to (shown_in hs pool table t who)
  mask_list least from to = ap (as_numbers least) (at_ext _ _ _ _ from to (λ p a b. sym (same_seen ok who m p (suc p))) (λ p a b. counted p))

  pub can_list : {to : ℕ} → to ≤ (get_or hs t no_head).length → CanList hs pool t to
  can_list h = record { walk = can_walk ok; reach = omega (arith, h, total_in ok) }
