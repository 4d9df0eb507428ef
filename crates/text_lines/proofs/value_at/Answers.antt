-- The line ends where the newline stands; what stands behind the name is what its value is read from, in whatever way.
use Rattle.std.specs.Prelude.{ℕ}
use mathlib.Core.Path.{sym, ap, ◌∙◌}
use mathlib.Core.List.{List}
use Prim.Native.Nat.{◌+◌}
use lib.ListN.{length}
use Rattle.text.proofs.Prefix.{starts_length, rest_part}
use Rattle.text_lines.specs.Lines.{at}
use Rattle.text_lines.proofs.Laws.{named_here, named_none, taken_here, taken_none}
use Rattle.text_lines.proofs.value_at.Goals as goal

pub returns-then-end-bytes : goal.returns-then-end-bytes
returns-then-end-bytes c way = taken_none c.args.name.now way c.args.bytes.now c.args.from c.find-end.result c.find-end.ensures c.if-end-bytes.true

pub slice_bounds-result-count : goal.slice_bounds-result-count
slice_bounds-result-count c = starts_length _ _ (sym c.starts.ensures ∙ c.if-starts.true)

pub slice_bounds-result-start : goal.slice_bounds-result-start
slice_bounds-result-start c = starts_length _ _ (sym c.starts.ensures ∙ c.if-starts.true)

pub returns-then-starts : goal.returns-then-starts
returns-then-starts c way =
    let a = c.args in
    let place = c.find-end.result + 1 in
    ap (λ (t : List ℕ). at place (way t)) (rest_part (length a.name.now) _)
    ∙ ap (at place) (sym (named_here a.name.now way _ (sym c.starts.ensures ∙ c.if-starts.true)))
    ∙ taken_here a.name.now way a.bytes.now a.from c.find-end.result c.find-end.ensures c.if-end-bytes.false

pub returns : goal.returns
returns c way =
    let a = c.args in
    ap (at (c.find-end.result + 1)) (sym (named_none a.name.now way _ (sym c.starts.ensures ∙ c.if-starts.false)))
    ∙ taken_here a.name.now way a.bytes.now a.from c.find-end.result c.find-end.ensures c.if-end-bytes.false
