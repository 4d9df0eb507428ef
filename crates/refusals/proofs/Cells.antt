-- A text of cells, compared with the table once, by computing, has the words of each number in its cell.
use mathlib.Core.Path.{◌≡◌, ap, ◌∙◌}
use mathlib.Core.List.{List, [], ◌∷◌, ◌++◌, map}
use Prim.Native.Nat.{ℕ, ◌+◌, ◌*◌, min}
use lib.ListN.{length, take, drop}
use Rattle.text.specs.Bytes.{up_to}
use Rattle.script.specs.Cells.{cells}
use Rattle.script.specs.Writing.{Puts}
use Rattle.script.proofs.PutLaws.{puts_as}
use Rattle.script.proofs.Tables.{in_cells}
use Rattle.refusals.specs.Words.{refusals, words_of}

pub words_at : (all : List ℕ) (number : ℕ) {cell at r : ℕ} {d o : List ℕ} → Puts d at (up_to 46 (take 48 (drop (cell * 48) all))) 48 r o → cell ≡ min number (length refusals)
    → map (up_to 46) (cells 48 (length refusals + 1) all) ≡ map (λ (w : List ℕ). w) (refusals ++ [] ∷ []) → Puts d at (words_of number) 48 r o
words_at all number p e right =
    puts_as (ap (λ (k : ℕ). up_to 46 (take 48 (drop (k * 48) all))) e ∙ in_cells (up_to 46) (λ (w : List ℕ). w) [] refusals 48 all right number) p
