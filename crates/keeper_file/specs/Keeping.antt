-- The text of STATE that a run has at hand: it says the place and the tanks that the run works on.
use Rattle.std.specs.Prelude.{◌≡◌, List, ℕ, ◌≤◌, length, take}
use Rattle.text_lines.specs.Lines.{got}
use Rattle.tanks.specs.House.{House}
use Rattle.keeper_file.specs.File.{file_says}

-- a text says a place and a house
pub record Tells (place : ℕ) (h : House) (text : List ℕ) : Type 0 where
  pub lines : ℕ
  pub left : List ℕ
  pub is : file_says text ≡ got (record { place = place; house = h }) lines left

-- so many bytes in front of a buffer are such a text
pub record Holds (place : ℕ) (h : House) (size : ℕ) (buffer : List ℕ) : Type 0 where
  pub inside : size ≤ length buffer
  pub tells : Tells place h (take size buffer)
