-- An insertion or a deletion that changes the length of one run alone: what it asks of that run.
use Rattle.std.specs.Prelude.{ℕ, ◌+◌, ◌-◌, ◌≤◌, ◌<◌, ◌≡◌, true, false, List, []}
use Rattle.std.specs.Int.Bits.{bit_and}
use Rattle.styles.specs.declared.Mark.{Mark}
use Rattle.styles.specs.declared.Party.{Party}
use Rattle.styles.specs.Marks.{of_party}
use Rattle.tank.specs.Rules.{Edit, annotating, inserting, deleting, removing, is_lab, largest}
use Rattle.tanks.specs.declared.Head.{Head}
use Rattle.tanks.specs.declared.Resize.{Resize}

-- an accepted insertion between positions pos - 1 and pos: the run that has the one, or the one that has the other, gains the new ones
pub record InsertsWithin (who : Party) (pos len : ℕ) (h : Head) (r : Resize) : Type 0 where
  pub plant : is_lab who ≡ false
  pub some : 0 < len
  pub touched : h.touched ≡ true
  pub inside : pos < h.length
  pub room : len ≤ largest - h.length
  pub from_is : r.from + 1 ≡ pos
  pub to_is : r.to ≡ pos
  pub less_is : r.less ≡ 0
  pub more_is : r.more ≡ len

-- an accepted deletion of start .. end: the run that has all of them loses them
pub record DeletesWithin (who : Party) (start end : ℕ) (h : Head) (r : Resize) : Type 0 where
  pub plant : is_lab who ≡ false
  pub touched : h.touched ≡ true
  pub up : start < end
  pub from_is : r.from ≡ start
  pub to_is : r.to ≡ end
  pub less_is : r.less ≡ end - start
  pub more_is : r.more ≡ 0

-- either of them; no other edit is one
abbrev pub Within : Edit → Head → Resize → Type 0
Within (annotating a b m) h r = ⊥
Within (inserting who pos len) h r = InsertsWithin who pos len h r
Within (deleting who a b) h r = DeletesWithin who a b h r
Within (removing id last) h r = ⊥

-- what is said of an edit of a tank with this head that asks for a run: it is one of the two
pub record Resizes (e : Edit) (h : Head) (r : Resize) : Type 0 where
  pub reach : r.to ≤ h.length
  pub is : Within e h r

-- the run that has the positions start .. end is the one that is asked for, and is not left empty
pub record Fits (r : Resize) (start end : ℕ) : Type 0 where
  pub begins : start ≤ r.from
  pub left : r.less < end - start

-- of the run that ends at `end`, with the set `here`, and the next one, with the set `next`, the one that an edit changes: 0 and 1.
-- Where the runs meet, new positions get what both have in common, so it is the one that has no more than that
pub record Which (r : Resize) (end here next pick : ℕ) : Type 0 where
  pub most : pick ≤ 1
  pub this : pick ≡ 0 → 0 < r.more → end ≤ r.to → bit_and here next ≡ here
  pub that : pick ≡ 1 → (0 < r.more) × (end ≤ r.to) × (bit_and here next ≡ next)

-- of marks that new positions carry, those that an edit shows
abbrev pub shown_by : Edit → List Mark → List Mark
shown_by (annotating a b m) ms = []
shown_by (inserting who pos len) ms = of_party who ms
shown_by (deleting who a b) ms = []
shown_by (removing id last) ms = []
