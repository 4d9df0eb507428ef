-- Squeezed sets and masks as the loops build them, one bit after another. That they are what specs/Bits says: `squeeze_is` (SqueezeLaws) and
-- `mask_is` (MaskLaws).
use Rattle.std.proofs.Common.{ℕ, zero, suc, ◌+◌, ◌*◌, ◌/◌, ◌%◌, Bool, true, false, List, [], ◌∷◌}
use Rattle.styles.specs.declared.Mark.{Mark}

-- a bit kept where the mask has it
abbrev pub squeeze_step : ℕ → ℕ → ℕ → ℕ
squeeze_step zero b rest = rest
squeeze_step (suc k) b rest = rest * 2 + b

-- of k bits of s those that the mask has, moved down to close the gaps
unfoldable pub squeeze : ℕ → ℕ → ℕ → ℕ
squeeze zero mask s = 0
squeeze (suc k) mask s = squeeze_step (mask % 2) (s % 2) (squeeze k (mask / 2) (s / 2))

-- a test as a bit
abbrev pub as_bit : Bool → ℕ
as_bit true = 1
as_bit false = 0

-- the bits of the marks for which a test holds
unfoldable pub mask_of : (Mark → Bool) → List Mark → ℕ
mask_of f [] = 0
mask_of f (m ∷ ms) = mask_of f ms * 2 + as_bit (f m)
