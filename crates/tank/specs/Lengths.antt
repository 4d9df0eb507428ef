-- What an edit adds to a touched tank's length and takes from it, and which edit touches a tank: what the theorems on lengths speak of.
use Rattle.std.specs.Prelude.{ℕ, ◌-◌, Bool, true, false}
use Rattle.tank.specs.Rules.{Edit, annotating, inserting, deleting, removing}

-- what an edit adds
unfoldable pub gained : Edit → ℕ
gained (annotating a b m) = 0
gained (inserting by pos len) = len
gained (deleting by a b) = 0
gained (removing id last) = 0

-- and what it takes
unfoldable pub lost : Edit → ℕ
lost (annotating a b m) = 0
lost (inserting by pos len) = 0
lost (deleting by a b) = b - a
lost (removing id last) = 0

-- the edit is an annotate
unfoldable pub annotates : Edit → Bool
annotates (annotating a b m) = true
annotates (inserting by pos len) = false
annotates (deleting by a b) = false
annotates (removing id last) = false
