-- What stands behind the name is read; a line that does not begin with it is wrong.
use Rattle.std.specs.Prelude.{Option}
use mathlib.Core.Path.{sym, ap, ◌∙◌}
use Rattle.text.specs.Bytes.{bytes}
use Rattle.text.proofs.Prefix.{rest_part, starts_length}
use Rattle.text_lines.proofs.Laws.{named_here}
use Rattle.styles.specs.declared.Value.{Value}
use Rattle.script.specs.Reading.{value_of}
use Rattle.saved.specs.Saying.{value_said}
use Rattle.saved.specs.Reads.{value_at}
use Rattle.saved.proofs.WordLaws.{value_way}
use Rattle.saved.proofs.words.value_after.Goals as goal

pub slice_bounds-value_of-count : goal.slice_bounds-value_of-count
slice_bounds-value_of-count c = starts_length _ (bytes "value=") (sym c.starts.ensures ∙ c.if-starts.true)

pub slice_bounds-value_of-start : goal.slice_bounds-value_of-start
slice_bounds-value_of-start c = starts_length _ (bytes "value=") (sym c.starts.ensures ∙ c.if-starts.true)

pub returns-then-starts : goal.returns-then-starts
returns-then-starts c =
    let a = c.args in
    c.value_at.ensures
    ∙ ap (λ (p : Option Value). value_at a.place (value_said p)) (c.value_of.ensures ∙ ap (value_of a.kind) (rest_part 6 a.line.now))
    ∙ ap (value_at a.place) (sym (named_here (bytes "value=") (value_way a.kind) a.line.now (sym c.starts.ensures ∙ c.if-starts.true)))

pub returns : goal.returns
returns c = rw (sym c.starts.ensures ∙ c.if-starts.false)
