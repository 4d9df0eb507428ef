-- The rules of the tables: a text of cells is compared with a table once, by computing, and each cell is then its row's, whatever the number.
use Rattle.std.specs.Prelude.{Some}
use mathlib.Core.Path.{◌≡◌, refl, sym, ap, ◌∙◌}
use mathlib.Core.Bool.{Bool, true, cond}
use mathlib.Core.List.{List, [], ◌∷◌, ◌++◌, map}
use Prim.Native.Nat.{ℕ, zero, suc, ◌+◌, ◌-◌, ◌*◌, ◌≤◌, ◌<◌, min}
use native.Mathlib.Nat.{zero-mul, suc-mul, le_of_suc-le-suc, not-suc-le-zero}
use native.Mathlib.Omega.{arith}
use native.Mathlib.Decide.{dec_lt}
use lib.Dec.{leb}
use lib.ListN.{length, get_or, take, drop, get_or-eq_default}
use lib.Seq.{get_or-take, get_or-drop, drop-drop}
use borrow.Author.Tests.{leb-true}
use Rattle.laws.proofs.Lists.{get_d_blank, get_d_padding}
use Rattle.text.specs.Bytes.{up_to, same_of}
use Rattle.script.specs.declared.Kind.{Kind}
use Rattle.script.specs.declared.Name.{Name}
use Rattle.script.specs.Grammar.{Field, no_field, spelling, kind_name, OpRow, no_row, op_rows, op_count, row_at, field_at}
use Rattle.script.specs.Cells.{letters, letter_count, field_of, cells, in_places, Names, Letters}
use Rattle.script.specs.Reading.{op_from}

-- ---- For any table
-- behind the last row of a table stands the one that is read for a number past them
pub clamped : {A : Type 0} (d : A) (xs : List A) (i : ℕ) → get_or (xs ++ d ∷ []) (min i (length xs)) d ≡ get_or xs i d
clamped {A} d xs i =
    elim (dec_lt i (length xs)) [
      | yes h ↦ let e : min i (length xs) ≡ i = omega arith in ap (λ (k : ℕ). get_or (xs ++ d ∷ []) k d) e ∙ get_d_padding d 1 i xs
      | no h ↦
          let e : min i (length xs) ≡ length xs = omega arith in
          ap (λ (k : ℕ). get_or (xs ++ d ∷ []) k d) e ∙ get_d_padding d 1 (length xs) xs ∙ get_or-eq_default xs d (omega arith) ∙ sym (get_or-eq_default xs d (omega arith))
    ]

-- the rows from a number on: the first of them, and then the rest
drop_row : {A : Type 0} (d : A) (xs : List A) (i : ℕ) → i < length xs → drop i xs ≡ get_or xs i d ∷ drop (suc i) xs
drop_row d [] i h = absurd (not-suc-le-zero h)
drop_row d (x ∷ xs) zero h = refl
drop_row d (x ∷ xs) (suc i) h = drop_row d xs i (le_of_suc-le-suc h)

-- what a column of a table has at a number
pub got_map : {A B : Type 0} (f : A → B) (d : A) (xs : List A) (i : ℕ) → get_or (map f xs) i (f d) ≡ f (get_or xs i d)
got_map f d [] i = refl
got_map f d (x ∷ xs) zero = refl
got_map f d (x ∷ xs) (suc i) = got_map f d xs i

-- a column that is an array of the code, with one place more than there are rows
pub in_column : {R A : Type 0} (g : R → A) (d : R) (rows : List R) (i : ℕ) → get_or (map g (rows ++ d ∷ [])) (min i (length rows)) (g d) ≡ g (get_or rows i d)
in_column g d rows i = got_map g d (rows ++ d ∷ []) (min i (length rows)) ∙ ap g (clamped d rows i)

cell_at : {A : Type 0} (f : List ℕ → A) (d : A) (w n i : ℕ) (t : List ℕ) → i < n → get_or (map f (cells w n t)) i d ≡ f (take w (drop (i * w) t))
cell_at f d w zero i t h = absurd (not-suc-le-zero h)
cell_at f d w (suc n) zero t h = ap (λ (k : ℕ). f (take w (drop k t))) (sym (zero-mul w))
cell_at f d w (suc n) (suc i) t h =
    let e : w + i * w ≡ suc i * w = omega (arith, suc-mul i w) in
    cell_at f d w n i (drop w t) (le_of_suc-le-suc h) ∙ ap (λ (l : List ℕ). f (take w l)) (drop-drop (i * w) w t ∙ ap (λ (k : ℕ). drop k t) e)

-- a column that the cells of a text have: each cell gives what its row does
pub in_cells : {R A : Type 0} (f : List ℕ → A) (g : R → A) (d : R) (rows : List R) (w : ℕ) (t : List ℕ) → map f (cells w (length rows + 1) t) ≡ map g (rows ++ d ∷ []) → (i : ℕ)
    → f (take w (drop (min i (length rows) * w) t)) ≡ g (get_or rows i d)
in_cells {R} {A} f g d rows w t e i =
    sym (cell_at f (g d) w (length rows + 1) (min i (length rows)) t (omega arith)) ∙ ap (λ (l : List A). get_or l (min i (length rows)) (g d)) e ∙ in_column g d rows i

-- ---- Ops
-- an op's name in a text of all
pub op_name_at : (all : List ℕ) {cell : ℕ} {n : Name} (i : ℕ) → n ≡ spelling (up_to 32 (take 16 (drop (cell * 16) all))) → cell ≡ min i op_count → Names all → n ≡ spelling (row_at i).name
op_name_at all i s e All-right =
    s
    ∙ ap (λ (k : ℕ). spelling (up_to 32 (take 16 (drop (k * 16) all)))) e
    ∙ ap spelling (in_cells (up_to 32) (λ (r : OpRow). r.name) no_row op_rows 16 all All-right.right i)

-- rows that are tried from a number on: the first of them, and then the rest
pub from_row : (i : ℕ) → i < op_count → (t : List ℕ) → op_from i (drop i op_rows) t ≡ cond (same_of t (row_at i).name) (Some i) (op_from (suc i) (drop (suc i) op_rows) t)
from_row i h t = ap (λ (rs : List OpRow). op_from i rs t) (drop_row no_row op_rows i h)

-- ---- Fields
-- the letter at a place of a row's cell
pub letter_at : (all : List ℕ) {cell letter : ℕ} (i place : ℕ) → letter ≡ get_or all (cell * 16 + place) 0 → cell ≡ min i op_count → place < 16
    → Letters all → field_of letter ≡ field_at i place
letter_at all i place l e h All-right =
    let t = drop (min i op_count * 16) all in
    ap field_of (l ∙ ap (λ (k : ℕ). get_or all (k * 16 + place) 0) e ∙ sym (get_or-drop (min i op_count * 16) all place 0) ∙ sym (get_or-take 16 t place 0 h))
    ∙ sym (got_map field_of 0 (take 16 t) place)
    ∙ ap (λ (fs : List Field). get_or fs place no_field) (in_cells (map field_of) in_places no_row op_rows 16 all All-right.right i)
    ∙ get_d_padding no_field (16 - length (row_at i).fields) place (row_at i).fields

few : OpRow → Bool
few r = leb (length r.fields) 16

few_fields : (i : ℕ) → length (row_at i).fields ≤ 16
unfolding few
few_fields i = leb-true (length (row_at i).fields) 16 (sym (got_map few no_row op_rows i) ∙ get_d_blank true op_count i)

-- no op has more than sixteen
pub past_fields : (i place : ℕ) → 16 ≤ place → field_at i place ≡ no_field
past_fields i place h = get_or-eq_default (row_at i).fields no_field (omega (arith, few_fields i))

-- a field's name in a text of all
pub field_name_at : (all : List ℕ) {cell : ℕ} {n : Name} (letter : ℕ) → n ≡ spelling (up_to 32 (take 8 (drop (cell * 8) all))) → cell ≡ min (letter - 47) letter_count
    → map (up_to 32) (cells 8 (letter_count + 1) all) ≡ map (λ (f : Field). f.name) (letters ++ no_field ∷ []) → n ≡ spelling (field_of letter).name
field_name_at all letter s e All-right =
    s
    ∙ ap (λ (k : ℕ). spelling (up_to 32 (take 8 (drop (k * 8) all)))) e
    ∙ ap spelling (in_cells (up_to 32) (λ (f : Field). f.name) no_field letters 8 all All-right (letter - 47))

-- a choice by a test of a name, whichever way the name is written
pub by_name : {A : Type 0} (test : List ℕ → Bool) (n m : List ℕ) (a b : A) (q : Bool) → n ≡ m → q ≡ test n → cond q a b ≡ cond (test m) a b
by_name test n m a b q e s = ap (λ (x : Bool). cond x a b) (s ∙ ap test e)
