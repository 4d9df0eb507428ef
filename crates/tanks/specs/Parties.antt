-- What a party is shown of a house, and when two houses show it the same.
use Rattle.std.specs.Prelude.{ℕ, ◌≡◌, List, [], ◌∷◌, eqb}
use Rattle.styles.specs.declared.Party.{Party}
use Rattle.tanks.specs.House.{House, shown_at, refusal_at, after_at, Call}

-- a party is shown the same of two houses: of every tank its own marks at every position, the length, and touched
abbrev pub Alike : Party → House → House → Type 0
Alike who g h = (t : ℕ) → shown_at g who t ≡ shown_at h who t

-- the same calls are accepted in both, one after another
unfoldable pub SameAccepted : House → House → List Call → Type 0
unfolding after_at
SameAccepted g h [] = Unit {0}
SameAccepted g h (c ∷ cs) =
    (eqb (refusal_at g c.tank c.edit) 0 ≡ eqb (refusal_at h c.tank c.edit) 0)
    × SameAccepted (after_at g c.tank c.edit) (after_at h c.tank c.edit) cs
