-- What stands behind the name is read; a line that does not begin with it is wrong.
use Rattle.std.specs.Prelude.{ℤ, Option}
use mathlib.Core.Path.{sym, ap, ◌∙◌}
use Rattle.text.specs.Bytes.{bytes}
use Rattle.text.specs.Signed.{signed32_of}
use Rattle.text.proofs.Prefix.{rest_part, starts_length}
use Rattle.text_lines.proofs.Laws.{named_here}
use Rattle.saved.specs.Saying.{counter_said}
use Rattle.saved.specs.Reads.{counter_at}
use Rattle.saved.proofs.WordLaws.{counter_way}
use Rattle.saved.proofs.words.counter_after.Goals as goal

pub slice_bounds-integer32-count : goal.slice_bounds-integer32-count
slice_bounds-integer32-count c = starts_length _ (bytes "cnt=") (sym c.starts.ensures ∙ c.if-starts.true)

pub slice_bounds-integer32-start : goal.slice_bounds-integer32-start
slice_bounds-integer32-start c = starts_length _ (bytes "cnt=") (sym c.starts.ensures ∙ c.if-starts.true)

pub returns-then-starts : goal.returns-then-starts
returns-then-starts c =
    let a = c.args in
    c.counter_at.ensures
    ∙ ap (λ (p : Option ℤ). counter_at a.lines a.place (counter_said p)) (c.integer32.ensures ∙ ap signed32_of (rest_part 4 a.line.now))
    ∙ ap (counter_at a.lines a.place) (sym (named_here (bytes "cnt=") counter_way a.line.now (sym c.starts.ensures ∙ c.if-starts.true)))

pub returns : goal.returns
returns c = rw (sym c.starts.ensures ∙ c.if-starts.false)
