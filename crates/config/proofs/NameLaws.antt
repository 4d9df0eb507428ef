-- Laws of names: where the first colon stands. Assumes nothing.
use mathlib.Core.Path.{◌≡◌, ◌∙◌}
use mathlib.Core.Bool.{true, false}
use mathlib.Core.List.{List}
use Prim.Native.Nat.{ℕ, ◌≤◌, ◌<◌}
use lib.ListN.{length}
use borrow.Author.Tests.{lt-ltb, le-ltb}
use Rattle.text.proofs.Finding.{held_by_length}
use Rattle.config.specs.Names.{holds_colon, cut}

-- a colon stands in the name exactly where the first one comes before the end
pub colon_cut : (k : List ℕ) → (length (cut k) < length k → holds_colon k ≡ true) × (length k ≤ length (cut k) → holds_colon k ≡ false)
colon_cut k =
    ((λ h. held_by_length 58 k ∙ lt-ltb (length (cut k)) (length k) h), λ h. held_by_length 58 k ∙ le-ltb (length (cut k)) (length k) h)
