-- What stands behind the name is read; a line that does not begin with it is wrong.
use mathlib.Core.Path.{sym, ap, ◌∙◌}
use mathlib.Core.List.{List}
use Prim.Native.Nat.{ℕ}
use Rattle.text.specs.Bytes.{bytes}
use Rattle.text.proofs.Prefix.{rest_part, starts_length}
use Rattle.text_lines.proofs.Laws.{named_here}
use Rattle.saved.specs.Reads.{party_at}
use Rattle.saved.proofs.WordLaws.{party_way}
use Rattle.saved.proofs.words.party_after.Goals as goal

pub slice_bounds-party_told-count : goal.slice_bounds-party_told-count
slice_bounds-party_told-count c = starts_length _ (bytes "party=") (sym c.starts.ensures ∙ c.if-starts.true)

pub slice_bounds-party_told-start : goal.slice_bounds-party_told-start
slice_bounds-party_told-start c = starts_length _ (bytes "party=") (sym c.starts.ensures ∙ c.if-starts.true)

pub returns-then-starts : goal.returns-then-starts
returns-then-starts c =
    let a = c.args in
    c.party_told.ensures
    ∙ ap (λ (l : List ℕ). party_at a.lines a.place (party_way a.least l)) (rest_part 6 a.line.now)
    ∙ ap (party_at a.lines a.place) (sym (named_here (bytes "party=") (party_way a.least) a.line.now (sym c.starts.ensures ∙ c.if-starts.true)))

pub returns : goal.returns
returns c = rw (sym c.starts.ensures ∙ c.if-starts.false)
