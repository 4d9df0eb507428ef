-- A chain of lines, one step further: the code has read a line, and what is read behind it goes on from there.
use Rattle.std.specs.Prelude.{Option, Some, None}
use mathlib.Core.Path.{◌≡◌, refl, sym, ap, ◌∙◌}
use mathlib.Core.Bool.{Bool, true, false, cond, ◌&&◌}
use mathlib.Core.List.{List}
use Prim.Native.Nat.{ℕ, ◌+◌, ◌≤◌, ◌<◌}
use native.Mathlib.Omega.{arith}
use lib.Dec.{leb}
use lib.ListN.{length, drop}
use borrow.Author.Tests.{lt-leb}
use Rattle.text.specs.Bytes.{holds, up_to, starts_of}
use Rattle.text.specs.Number.{decimal_of}
use Rattle.text_lines.specs.Lines.{Got, bad, got, then, number_line, decimal_from, within, at, taken_by, got_by}
use Rattle.text_lines.proofs.Laws.{taken_is, number_only}

module _ {B : Type 0} (g : Got B) (name : List ℕ) (least most : ℕ) (text : List ℕ) (from m : ℕ) (more : ℕ → ℕ → List ℕ → Got B) (h : g ≡ then (number_line name least most m (drop from text)) more) where
  step : (r : Option (ℕ × ℕ)) → r ≡ taken_by name (decimal_from least most) text from → g ≡ then (got_by text m r) more
  step r e = h ∙ ap (λ (x : Got ℕ). then x more) (sym (taken_is name (decimal_from least most) text from m) ∙ ap (got_by text m) (sym e))

  pub step_bad : None ≡ taken_by name (decimal_from least most) text from → bad (m + 1) ≡ g
  step_bad e = sym (step None e)

  pub step_on : (v p : ℕ) → Some (v, p) ≡ taken_by name (decimal_from least most) text from → g ≡ more v (m + 1) (drop p text)
  step_on v p e = step (Some (v, p)) e

-- the bounds of a number that was read
pub taken_within : (name : List ℕ) (least most : ℕ) (text : List ℕ) (from v p : ℕ) → Some (v, p) ≡ taken_by name (decimal_from least most) text from → (least ≤ v) × (v ≤ most)
taken_within name least most text from v p e =
    let q : number_line name least most 0 (drop from text) ≡ got v 1 (drop p text) = sym (taken_is name (decimal_from least most) text from 0) ∙ ap (got_by text 0) (sym e) in
    let n = number_only name least most 0 (drop from text) v 1 (drop p text) q in
    (n.low, n.high)

-- bounds that leave no number leave a wrong line
none_within : (least most : ℕ) → most < least → (p : Option ℕ) → within least most p ≡ None
none_within least most h None = refl
none_within least most h (Some v) = by (leb least v) refl where
  by : (b : Bool) → leb least v ≡ b → cond (b && leb v most) (Some v) None ≡ None
  by true e = rw (lt-leb v most (omega (arith, borrow.Author.Tests.leb-true least v e)))
  by false e = refl

pub taken_void : (name : List ℕ) (least most : ℕ) → most < least → (text : List ℕ) (from : ℕ) → None ≡ taken_by name (decimal_from least most) text from
unfolding taken_by
taken_void name least most h text from = by (holds 10 (drop from text)) (starts_of (up_to 10 (drop from text)) name) where
  by : (b c : Bool) → None ≡ cond b (at (from + length (up_to 10 (drop from text)) + 1) (cond c (decimal_from least most (drop (length name) (up_to 10 (drop from text)))) None)) None
  by true true = rw (none_within least most h (decimal_of (drop (length name) (up_to 10 (drop from text)))))
  by true false = refl
  by false c = refl
