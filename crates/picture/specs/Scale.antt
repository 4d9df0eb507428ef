-- docs/KEEPER.md, "picture": where a position stands in a band of 900 units, from position 0 at its left edge to the end of the marked part at
-- its right edge. `end` is that end.
use Rattle.std.specs.Prelude.{ℕ, ◌+◌, ◌-◌, ◌*◌, ◌/◌, min, max}

-- how many positions are counted as one, so that the product below fits: one of them up to 2^40 positions
abbrev pub unit_of : ℕ → ℕ
unit_of end = end / 1099511627776 + 1

-- the whole band, counted so
abbrev pub whole_of : ℕ → ℕ
whole_of end = end / unit_of end

-- where a position stands; one past the end at the right edge
unfoldable pub place_of : ℕ → ℕ → ℕ
place_of end pos = min (pos / unit_of end) (whole_of end) * 900 / whole_of end

-- how wide the positions from .. to are drawn: at least one unit, so that none is left out
abbrev pub width_of : ℕ → ℕ → ℕ → ℕ
width_of end from to = max (place_of end to - place_of end from) 1
