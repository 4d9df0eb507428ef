-- Names are short: what each row of a table has is tested by computing, once.
use mathlib.Core.Path.{sym, ◌∙◌}
use mathlib.Core.Bool.{Bool, true}
use Prim.Native.Nat.{ℕ, ◌-◌, ◌≤◌}
use lib.Dec.{leb}
use lib.ListN.{length}
use borrow.Author.Tests.{leb-true}
use Rattle.laws.proofs.Lists.{get_d_blank}
use Rattle.script.specs.Grammar.{Field, no_field, OpRow, no_row, op_rows, op_count, row_at}
use Rattle.script.specs.Cells.{letters, letter_count, field_of}
use Rattle.script.proofs.Tables.{got_map}

few_op : OpRow → Bool
few_op r = leb (length r.name) 16

pub short_op : (i : ℕ) → length (row_at i).name ≤ 16
unfolding few_op
short_op i = leb-true (length (row_at i).name) 16 (sym (got_map few_op no_row op_rows i) ∙ get_d_blank true op_count i)

few_field : Field → Bool
few_field f = leb (length f.name) 16

pub short_field : (letter : ℕ) → length (field_of letter).name ≤ 16
unfolding few_field
short_field letter = leb-true (length (field_of letter).name) 16 (sym (got_map few_field no_field letters (letter - 47)) ∙ get_d_blank true letter_count (letter - 47))
