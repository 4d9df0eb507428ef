-- Which keys occur in the tanks, the lowest first. 65536 stands for none: a key is at most 65535.
use Rattle.std.specs.Prelude.{Bool, true, Option, None, Some, cond, ◌&&◌, List, [], ◌∷◌, ℕ, zero, suc, ◌+◌, min, leb}
use Rattle.styles.specs.declared.Mark.{Mark}
use Rattle.styles.specs.Marks.{is_of}
use Rattle.tank.specs.Rules.{View, carried}
use Rattle.tanks.specs.House.{House, tank_at}
use Rattle.styles.specs.declared.Party.{Party}

-- no key
abbrev pub no_key : ℕ
no_key = 65536

-- a mark is asked for: one of either party, or of the one that is named
abbrev pub is_for : Option Party → Mark → Bool
is_for None m = true
is_for (Some who) m = is_of who m

-- the key of a mark that is asked for, where it is at least so much
abbrev pub key_from : Option Party → ℕ → Mark → ℕ
key_from whose least m = cond (is_for whose m && leb least m.key) m.key no_key

-- the lowest of the keys of marks that is at least so much
unfoldable pub lowest_of : Option Party → ℕ → List Mark → ℕ
lowest_of whose least [] = no_key
lowest_of whose least (m ∷ ms) = min (key_from whose least m) (lowest_of whose least ms)

-- in a tank: of the marks that it carries
unfoldable pub first_in : Option Party → ℕ → View → ℕ
unfolding lowest_of
first_in whose least v = lowest_of whose least (carried v)

-- the lowest in the first n tanks
unfoldable pub first_below : Option Party → ℕ → House → ℕ → ℕ
unfolding first_in
first_below whose least h zero = no_key
first_below whose least h (suc n) = min (first_below whose least h n) (first_in whose least (tank_at h n))

-- in all eight
unfoldable pub first_key : Option Party → ℕ → House → ℕ
unfolding first_below
first_key whose least h = first_below whose least h 8

-- the number behind a key, and none behind none
abbrev pub next_key : ℕ → ℕ
next_key k = min (k + 1) no_key

-- the n lowest that are at least so much, in order, and none behind the last
unfoldable pub keys_from : Option Party → ℕ → House → ℕ → List ℕ
unfolding first_key
keys_from whose least h zero = []
keys_from whose least h (suc n) = first_key whose least h ∷ keys_from whose (next_key (first_key whose least h)) h n

-- the n lowest of all
abbrev pub lowest_keys : Option Party → House → ℕ → List ℕ
lowest_keys whose h n = keys_from whose 0 h n
