use Rattle.std.specs.Prelude.{Some, None}
use mathlib.Core.Path.{◌≡◌, refl, sym, ap, subst, ◌∙◌}
use mathlib.Core.Bool.{Bool, true, false, cond}
use mathlib.Core.List.{List}
use Prim.Native.Nat.{ℕ, suc, ◌+◌, ◌*◌, ◌<◌, min}
use native.Mathlib.Omega.{arith}
use lib.ListN.{take, drop}
use Rattle.text.specs.Bytes.{same_of, up_to}
use Rattle.script.specs.declared.Name.{Name}
use Rattle.script.specs.Grammar.{op_rows, op_count, row_at, spelled_of, spelling}
use Rattle.script.specs.Cells.{Names}
use Rattle.script.specs.Reading.{op_from, op_named}
use Rattle.script.proofs.LineLaws.{name_spells, name_fits}
use Rattle.script.proofs.Tables.{op_name_at, from_row}
use Rattle.script.proofs.names.row_in.Invariants.{left}
use Rattle.script.proofs.names.row_in.Goals as goal

module _ (i : ℕ) (t : List ℕ) (all : left i t) where
  found : i < op_count → same_of t (row_at i).name ≡ true → Some i ≡ op_named t
  unfolding left
  found h s = sym (ap (λ (b : Bool). cond b (Some i) (op_from (suc i) (drop (suc i) op_rows) t)) s) ∙ sym (from_row i h t) ∙ all

  passed : i < op_count → same_of t (row_at i).name ≡ false → left (i + 1) t
  unfolding left
  passed h s =
      let e : suc i ≡ i + 1 = omega arith in
      subst (λ (k : ℕ). left k t) e (sym (ap (λ (b : Bool). cond b (Some i) (op_from (suc i) (drop (suc i) op_rows) t)) s) ∙ sym (from_row i h t) ∙ all)

  none : i ≡ op_count → None ≡ op_named t
  unfolding left
  none e = subst (λ (k : ℕ). left k t) e all

-- the word is the i-th row's name where it is what the i-th cell spells
tested : (all t : List ℕ) {n : Name} {q b : Bool} (i : ℕ) → Names all → i < op_count → n ≡ spelling (up_to 32 (take 16 (drop (i * 16) all))) → q ≡ same_of t (spelled_of n) → q ≡ b → same_of t (row_at i).name ≡ b
tested all t i All-right h s e k =
    let m : i ≡ min i op_count = omega arith in
    ap (same_of t) (sym (name_spells _ (op_name_at all i s m All-right))) ∙ sym e ∙ k

pub loop-i-init : goal.loop-i-init
unfolding left op_named
loop-i-init c = refl

pub op_name_at-requires : goal.op_name_at-requires
op_name_at-requires c = omega (arith, c.requires.wide)

pub is_name-requires : goal.is_name-requires
is_name-requires c = name_fits _ c.op_name_at.ensures

pub returns-then-is_name : goal.returns-then-is_name
returns-then-is_name c =
    let w = c.loop-i in
    let h = c.loop-i-test.true in
    found w.i _ w.invariant h (tested _ _ w.i c.requires h c.op_name_at.ensures c.is_name.ensures c.if-is_name.true)

pub loop-i-preserved : goal.loop-i-preserved
loop-i-preserved c =
    let w = c.loop-i in
    let h = c.loop-i-test.true in
    passed w.i _ w.invariant h (tested _ _ w.i c.requires h c.op_name_at.ensures c.is_name.ensures c.if-is_name.false)

pub returns : goal.returns
returns c = let w = c.loop-i in none w.i _ w.invariant (omega arith)
