-- Document 01, "Questions and lists": a whole tank's anchors from the positions, and a cursor that runs through them.
use Rattle.std.specs.Prelude.{ℕ, zero, suc, ◌+◌, ◌-◌, ◌≤◌, ◌<◌, ◌^◌, ◌≡◌, cond, not, List, [], ◌∷◌, ◌++◌, map, ltb, length, Option, None, Some}
use Rattle.styles.specs.declared.Mark.{Mark}
use Rattle.styles.specs.Order.{id_of}
use Rattle.styles.specs.Marks.{member, only}
use Rattle.styles.specs.Bits.{pick, lacking_bits}
use Rattle.runs.specs.Runs.{runs, total}
use Rattle.tank.specs.declared.Tank.{Tank}
use Rattle.lists.specs.declared.Listed.{Listed}
use Rattle.lists.specs.declared.anchors.Anchor.{Anchor}
use Rattle.lists.specs.declared.anchors.AnchorCursor.{AnchorCursor}
use Rattle.richtext.specs.declared.AnchorType.{AnchorType}
use Rattle.richtext.specs.declared.AnchorType.TheVariants.{Start, End}
use Rattle.tank.specs.Rules.{View}
use Rattle.tank.specs.State.{table_of, view}
use Rattle.lists.specs.Lists.{list_refusal, filled_beside}

-- ---- The list
-- the marks of the first set whose identity the second does not carry
abbrev pub lacking : List Mark → List Mark → List Mark
lacking xs ys = only (λ m. not (member (id_of m) ys)) xs

-- a boundary is the place before a position, or the one behind the last. The marks before it: none at 0
unfoldable pub marks_before : ℕ → View → List Mark
marks_before zero v = []
marks_before (suc p) v = v.at p

-- the marks behind it: none at the length
unfoldable pub marks_behind : ℕ → View → List Mark
marks_behind p v = cond (ltb p v.length) (v.at p) []

-- the anchor of a mark at a position
abbrev pub anchor_of : ℕ → AnchorType → Mark → Anchor
anchor_of p side m = record { at = p; side = side; key = m.key; lamport = m.lamport; peer = m.peer }

-- one for each mark of a set, in its order: by key, lamport, peer
unfoldable pub anchors_of : ℕ → AnchorType → List Mark → List Anchor
anchors_of p side ms = map (anchor_of p side) ms

-- at a boundary first the ends, at the last position carrying the mark, then the starts, at the first
unfoldable pub boundary : ℕ → View → List Anchor
boundary p v =
    anchors_of (p - 1) End (lacking (marks_before p v) (marks_behind p v)) ++ anchors_of p Start (lacking (marks_behind p v) (marks_before p v))

-- n boundaries from p on, ascending
unfoldable pub boundaries : ℕ → ℕ → View → List Anchor
boundaries p zero v = []
boundaries p (suc n) v = boundary p v ++ boundaries (suc p) n v

-- a whole tank's anchors: the boundaries 0 to length
unfoldable pub anchors : View → List Anchor
anchors v = boundaries 0 (suc v.length) v

-- the count of records needed: asked without a list, so never 11
abbrev pub anchors_needed : View → Listed
anchors_needed v = filled_beside 0 (anchors v)

-- what a list of anchors gives where the caller lends `room` records: a lower number, or 11, or 0
abbrev pub anchors_after : ℕ → ℕ → View → ℕ
anchors_after lower room v = list_refusal lower room (length (anchors v))

-- and where no lower one is given
abbrev pub anchors_number : ℕ → View → ℕ
anchors_number = anchors_after 0

-- ---- By bits
-- what a boundary has between a set of bits and the next, over a table
abbrev pub between : List Mark → ℕ → ℕ → ℕ → List Anchor
between ms p x y = anchors_of (p - 1) End (pick ms (lacking_bits x y)) ++ anchors_of p Start (pick ms (lacking_bits y x))

-- ---- The cursor
-- what a look past the last anchor shows
abbrev pub no_anchor : Anchor
no_anchor = record { at = 0; side = Start; key = 0; lamport = 0; peer = 0 }

-- what a cursor has left of the boundary that it stands at
unfoldable pub left_at : Tank → AnchorCursor → List Anchor
left_at t c = anchors_of (c.at - 1) End (pick (table_of t) c.ends) ++ anchors_of c.at Start (pick (table_of t) c.starts)

-- the anchors of the boundaries behind it
unfoldable pub later_than : Tank → AnchorCursor → List Anchor
later_than t c = boundaries (suc c.at) (t.length - c.at) (view t)

-- all that come from the cursor on
abbrev pub rest : Tank → AnchorCursor → List Anchor
rest t c = left_at t c ++ later_than t c

-- a cursor of the tank: it stands at the boundary before run `index`, and what it has left are marks of the table
pub record Stands (t : Tank) (c : AnchorCursor) : Type 0 where
  pub within : c.index ≤ t.runs
  pub at_is : c.at ≡ total (runs t.lens t.sets c.index)
  pub ends_in : c.ends < 2 ^ t.marks
  pub starts_in : c.starts < 2 ^ t.marks
  pub none_before : c.at ≡ 0 → c.ends ≡ 0

-- a step: the anchor that comes next and a cursor for those after it, or that there is none
unfoldable pub Steps : Tank → AnchorCursor → Option (Anchor × AnchorCursor) → Type 0
Steps t c None = rest t c ≡ []
Steps t c (Some p) = (rest t c ≡ p.0 ∷ rest t p.1) × Stands t p.1

-- the boundary behind a cursor's; where a run begins at it, it has an anchor
pub record Follows (t : Tank) (c d : AnchorCursor) : Type 0 where
  pub stands : Stands t d
  pub next : d.index ≡ c.index + 1
  pub later : later_than t c ≡ rest t d
  pub some : d.index < t.runs → d.ends ≡ 0 → d.starts ≡ 0 → ⊥

-- a cursor with the same to come that has nothing left only where nothing comes
pub record Settles (t : Tank) (c d : AnchorCursor) : Type 0 where
  pub stands : Stands t d
  pub same : rest t c ≡ rest t d
  pub over : d.ends ≡ 0 → d.starts ≡ 0 → rest t d ≡ []
