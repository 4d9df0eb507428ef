-- What a state that is handed on promises, and what a number of runs must be.
use Rattle.std.specs.Prelude.{◌≡◌, ℕ, ◌≤◌}
use Rattle.tanks.specs.declared.Tanks.{Tanks}
use Rattle.tanks.specs.House.{House}
use Rattle.tanks.specs.Pool.{meaning, Sound}

-- it is sound, and means this house
pub record MeansHouse (h : House) (s : Tanks) : Type 0 where
  pub is : meaning s ≡ h
  pub sound : Sound s

-- a size that `sized` can give
pub record Sized (runs : ℕ) : Type 0 where
  pub three : 3 ≤ runs
  pub room : runs ≤ 503
