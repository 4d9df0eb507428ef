-- What stands behind the name is read; a line that does not begin with it is wrong.
use Rattle.std.specs.Prelude.{Option}
use mathlib.Core.Path.{sym, ap, ◌∙◌}
use Rattle.text.specs.Bytes.{bytes}
use Rattle.text.proofs.Prefix.{rest_part, starts_length}
use Rattle.text_lines.proofs.Laws.{named_here}
use Rattle.script.specs.declared.Kind.{Kind}
use Rattle.script.specs.Reading.{kind_named}
use Rattle.saved.specs.Saying.{kind_said}
use Rattle.saved.specs.Reads.{kind_at}
use Rattle.saved.proofs.WordLaws.{kind_way}
use Rattle.saved.proofs.words.kind_after.Goals as goal

pub slice_bounds-kind_named-count : goal.slice_bounds-kind_named-count
slice_bounds-kind_named-count c = starts_length _ (bytes "kind=") (sym c.starts.ensures ∙ c.if-starts.true)

pub slice_bounds-kind_named-start : goal.slice_bounds-kind_named-start
slice_bounds-kind_named-start c = starts_length _ (bytes "kind=") (sym c.starts.ensures ∙ c.if-starts.true)

pub returns-then-starts : goal.returns-then-starts
returns-then-starts c =
    let a = c.args in
    c.kind_at.ensures
    ∙ ap (λ (p : Option Kind). kind_at a.place (kind_said p)) (c.kind_named.ensures ∙ ap kind_named (rest_part 5 a.line.now))
    ∙ ap (kind_at a.place) (sym (named_here (bytes "kind=") (kind_way) a.line.now (sym c.starts.ensures ∙ c.if-starts.true)))

pub returns : goal.returns
returns c = rw (sym c.starts.ensures ∙ c.if-starts.false)
