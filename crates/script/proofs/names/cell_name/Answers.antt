-- The name is what stands up to the first blank.
use mathlib.Core.Path.{◌≡◌, sym, ap, ◌∙◌}
use mathlib.Core.List.{List}
use Prim.Native.Nat.{ℕ, ◌+◌}
use native.Mathlib.Omega.{arith}
use lib.ListN.{length, take}
use lib.Seq.{length-take-le}
use Rattle.text.specs.Bytes.{up_to}
use Rattle.script.specs.Grammar.{spelling}
use Rattle.text.proofs.Finding.{front_length, front_take}
use Rattle.script.proofs.names.cell_name.Goals as goal

front : (cell : List ℕ) (to : ℕ) → to ≡ 0 + length (up_to 32 cell) → take to cell ≡ up_to 32 cell
front cell to e = let k : to ≡ length (up_to 32 cell) = omega arith in ap (λ (n : ℕ). take n cell) k ∙ front_take 32 cell

pub slice_bounds-named-end : goal.slice_bounds-named-end
slice_bounds-named-end c = sym (length-take-le _ _ (omega (arith, c.find-to.ensures, front_length 32 c.args.cell.now)))

pub named-requires : goal.named-requires
named-requires c = omega (arith, ap length (front c.args.cell.now _ c.find-to.ensures), front_length 32 c.args.cell.now)

pub returns : goal.returns
returns c = c.named.ensures ∙ ap spelling (front c.args.cell.now _ c.find-to.ensures)
