-- A tank's anchors as records that a caller lends: a walk over its runs where they stand, which makes them ahead of their turn.
use Rattle.std.specs.Prelude.{ℕ, zero, suc, ◌+◌, ◌-◌, ◌≤◌, ◌<◌, ◌^◌, ◌≡◌, List, [], ◌++◌, length, get_or}
use Rattle.std.specs.Int.Bits.{bit_and}
use Rattle.std.proofs.Math.Seq.{slice}
use Rattle.styles.specs.declared.Mark.{Mark}
use Rattle.styles.specs.declared.Party.{Party}
use Rattle.styles.specs.Bits.{pick}
use Rattle.runs.specs.Positions.{sum_below}
use Rattle.richtext.specs.declared.AnchorType.TheVariants.{Start, End}
use Rattle.lists.specs.declared.anchors.Anchor.{Anchor}
use Rattle.lists.specs.Anchors.{anchors_of, anchors, between}
use Rattle.tanks.specs.declared.Run.{Run}
use Rattle.tanks.specs.declared.Tanks.{Tanks}
use Rattle.tanks.specs.House.{shown_at}
use Rattle.tanks.specs.Pool.{no_run, meaning}
use Rattle.ask.specs.declared.records.Place.{Place}
use Rattle.ask.specs.declared.records.Walk.{Walk}
use Rattle.ask.specs.declared.records.Ahead.{Ahead}

-- ---- Runs from a place of the pool on
-- the length of the k-th
abbrev pub len_at : List Run → ℕ → ℕ → ℕ
len_at pool at k = (get_or pool (at + k) no_run).len

-- the bits of a mask that it has
abbrev pub bits_at : List Run → ℕ → ℕ → ℕ → ℕ
bits_at pool at own k = bit_and (get_or pool (at + k) no_run).set own

-- the anchors where the next n runs begin, the first of them run i, at `end` behind the bits `last`, and those behind the last of them
unfoldable pub comes : List Mark → List Run → ℕ → ℕ → ℕ → ℕ → ℕ → ℕ → List Anchor
comes ms pool at own zero i end last = between ms end last 0
comes ms pool at own (suc n) i end last = between ms end last (bits_at pool at own i) ++ comes ms pool at own n (suc i) (end + len_at pool at i) (bits_at pool at own i)

-- ---- A party's marks where they stand
-- all their anchors
abbrev pub records_of : Place → List Anchor
records_of p = comes p.marks p.pool p.from p.own p.runs 0 0 0

-- the runs are in the pool, and their end can be counted
pub record Fits (p : Place) : Type 0 where
  pub inside : p.from + p.runs ≤ 512
  pub small : sum_below (len_at p.pool p.from) p.runs < 2 ^ 63
  pub table_64 : length p.marks ≡ 64
  pub bits_64 : p.own < 2 ^ 64

-- they are those of tank t that a party is shown
pub record PlacedIn (s : Tanks) (t : ℕ) (who : Party) (p : Place) : Type 0 where
  pub fits : Fits p
  pub all : t < 8 → records_of p ≡ anchors (shown_at (meaning s) who t)

-- ---- The walk
-- what it has left of the boundary that it stands at
unfoldable pub left_of : List Mark → Walk → List Anchor
left_of ms w = anchors_of (w.at - 1) End (pick ms w.ends) ++ anchors_of w.at Start (pick ms w.starts)

-- the anchors of the boundaries behind it
abbrev pub behind_of : Place → Walk → List Anchor
behind_of p w = comes p.marks p.pool p.from p.own (p.runs - w.passed) w.passed w.end w.last

-- all that come from there on
abbrev pub rest_of : Place → Walk → List Anchor
rest_of p w = left_of p.marks w ++ behind_of p w

-- a walk over the runs of the place
pub record Walks (p : Place) (w : Walk) : Type 0 where
  pub within : w.passed ≤ p.runs
  pub begun : w.end ≡ sum_below (len_at p.pool p.from) w.passed
  pub last_64 : w.last < 2 ^ 64
  pub ends_64 : w.ends < 2 ^ 64
  pub starts_64 : w.starts < 2 ^ 64

-- ---- Anchors made ahead
-- those that have not had their turn
abbrev pub ready_of : Ahead → List Anchor
ready_of c = slice c.next c.count c.made

-- those, and what the walk comes to
abbrev pub come_from : Place → Ahead → List Anchor
come_from p c = ready_of c ++ rest_of p c.walk

pub record Ready (c : Ahead) : Type 0 where
  pub long : length c.made ≡ 16
  pub few : c.count ≤ 16
  pub within : c.next ≤ 16

-- of the place; where none is ready, none comes
pub record Stands (p : Place) (c : Ahead) : Type 0 where
  pub ready : Ready c
  pub walks : Walks p c.walk
  pub over : c.count ≤ c.next → rest_of p c.walk ≡ []
