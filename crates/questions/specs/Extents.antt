-- What change request 2 asks of the stretch that a position is in: it is the longest of equal marks, and there is no other (`extent_maximal`,
-- `extent_one`, proofs/Extents). Of positions of a view alone, whoever's marks it has.
use Rattle.std.specs.Prelude.{ℕ, suc, ◌≤◌, ◌<◌, ◌≡◌, true, false}
use Rattle.styles.specs.Marks.{same_marks}
use Rattle.tank.specs.Rules.{View}

-- the positions a to b, both in it, hold p and have the same marks, and the neighbour on either side has others
pub record Maximal (v : View) (p a b : ℕ) : Type 0 where
  pub holds : (a ≤ p) × (p ≤ b) × (b < v.length)
  pub same : (q r : ℕ) → a ≤ q → q ≤ r → r ≤ b → same_marks (v.at q) (v.at r) ≡ true
  pub before : (q : ℕ) → a ≡ suc q → same_marks (v.at q) (v.at a) ≡ false
  pub behind : suc b < v.length → same_marks (v.at b) (v.at (suc b)) ≡ false
