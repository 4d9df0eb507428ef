-- `paint_parts` meets its contract: the refusals in turn, and then one question and a letter for each of its answers.
use Prim.Native.Nat.{ℕ}
use mathlib.Core.Path.{sym, ap, ◌∙◌}
use mathlib.Core.Bool.{Bool, cond}
use mathlib.Core.List.{List}
use borrow.Author.Tests.{lt-leb}
use lib.ListN.{length, replicate}
use Rattle.runs.specs.Stretches.{in_front}
use Rattle.windows.specs.Windows.{windows}
use Rattle.styles.specs.declared.Party.TheVariants.{Plant}
use Rattle.tanks.specs.Looks.{shown_in}
use Rattle.strip.specs.Cells.{letters_of}
use Rattle.strip.proofs.StripLaws.{cells_are, number_1, number_3, number_11, number_0, beside, beside_0}
use Rattle.strip.proofs.paint_parts.Goals as goal

pub returns-then-tank-ge8 : goal.returns-then-tank-ge8
returns-then-tank-ge8 c =
    let a = c.args in
    let n = number_1 a.tank a.k (length a.out.now) c.if-tank-ge8.true in
    record { value = sym n; out_after = beside _ 0 _ _ n }

pub returns-then-k-eq0 : goal.returns-then-k-eq0
returns-then-k-eq0 c =
    let a = c.args in
    let n = number_3 a.tank a.k (length a.out.now) c.if-tank-ge8.false c.if-k-eq0.true in
    record { value = sym n; out_after = beside _ 2 _ _ n }

pub returns-then-out-lt96 : goal.returns-then-out-lt96
returns-then-out-lt96 c =
    let a = c.args in
    let n = number_11 a.tank a.k (length a.out.now) c.if-tank-ge8.false c.if-k-eq0.false c.if-out-lt96.true in
    record { value = sym n; out_after = beside _ 10 _ _ n }

pub returns : goal.returns
returns c =
    let a = c.args in
    let v = shown_in a.heads a.pool a.table a.tank Plant in
    let n = number_0 a.tank a.k (length a.out.now) c.if-tank-ge8.false c.if-k-eq0.false c.if-out-lt96.false in
    let blank : List ℕ = replicate 96 0 in
    let seen = c.first_shown.ensures.out_after ∙ ap (λ (b : Bool). cond b blank (windows v a.keys a.start a.k 96)) (lt-leb 8 a.tank c.if-tank-ge8.false) in record {
      value = sym n;
      out_after = c.spell.ensures
          ∙ ap (λ (xs : List ℕ). in_front (letters_of a.letters xs) a.out.now) seen
          ∙ ap (λ (xs : List ℕ). in_front xs a.out.now) (cells_are v a.keys a.letters a.start a.k)
          ∙ beside_0 _ _ _ n;
    }
