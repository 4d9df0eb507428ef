-- The line is cut; where it has ended, it is read, and the next begins.
use mathlib.Core.Path.{◌≡◌, sym, ap, ◌∙◌}
use mathlib.Core.Bool.{true, false}
use mathlib.Core.List.{List}
use Prim.Native.Nat.{ℕ}
use lib.ListN.{drop}
use Rattle.script.specs.declared.Cut.{Cut}
use Rattle.script.specs.declared.Event.{Event}
use Rattle.script.specs.declared.Read.{Read}
use Rattle.script.specs.declared.Reader.{Reader}
use Rattle.script.specs.Reading.{line_of}
use Rattle.script.specs.Lines.{has_end, held_of, empty_line, grown_of, cut_of, state_of, reader_in, event_of, turned_of, read_of, brings_of, reader_after, Feeds}
use Rattle.script.proofs.CutLaws.{held_holding}
use Rattle.script.proofs.lines.feed.Goals as goal

module _ (r : Reader) (bytes : List ℕ) (from : ℕ) (c : Cut) (is_cut : c ≡ cut_of bytes from r.line) where
  -- the line has ended, and has been read
  module _ (is_whole : c.whole ≡ true) (read : Read) (is_read : read ≡ line_of r.call (held_of c.line)) (next : Reader)
      (is-next : next ≡ reader_in empty_line (turned_of r.newlines read.progress read.call)) (brings : Event) (is-event : brings ≡ event_of read.progress) where
    has : true ≡ has_end (drop from bytes)
    has = sym is_whole ∙ ap (λ (x : Cut). x.whole) is_cut

    held : held_of c.line ≡ grown_of (held_of r.line) (drop from bytes)
    held = ap (λ (x : Cut). held_of x.line) is_cut ∙ held_holding r.line (grown_of (held_of r.line) (drop from bytes))

    is-of : read ≡ read_of (state_of r) (drop from bytes)
    is-of = is_read ∙ ap (line_of r.call) held ∙ rw (sym has)

    feeds-whole : Feeds r bytes from (record { reader = next; event = brings; call = read.call; at = c.at })
    unfolding brings_of reader_after
    feeds-whole =
        record {
          reader = is-next ∙ ap (λ (q : Read). reader_in empty_line (turned_of r.newlines q.progress q.call)) is-of ∙ rw (sym has);
          event = is-event ∙ ap (λ (q : Read). event_of q.progress) is-of;
          call = ap (λ (q : Read). q.call) is-of;
          at = ap (λ (x : Cut). x.at) is_cut;
        }

  -- the line goes on
  module _ (is_open : c.whole ≡ false) where
    lacks : false ≡ has_end (drop from bytes)
    lacks = sym is_open ∙ ap (λ (x : Cut). x.whole) is_cut

    feeds-open : Feeds r bytes from (record { reader = record { line = c.line; call = r.call; newlines = r.newlines }; event = Event.Nothing; call = r.call; at = c.at })
    unfolding brings_of reader_after
    feeds-open =
        record {
          reader = ap (λ (x : Cut). record { line = x.line; call = r.call; newlines = r.newlines }) is_cut ∙ rw (sym lacks);
          event = rw (sym lacks);
          call = rw (sym lacks);
          at = ap (λ (x : Cut). x.at) is_cut;
        }

pub returns-then-c : goal.returns-then-c
returns-then-c c =
    let a = c.args in
    feeds-whole a.r a.bytes.now a.from _ c.cut_line-c.ensures c.if-c.true _ c.kept_read-read.ensures _ c.turned-next.ensures _ c.event-brings.ensures

pub returns : goal.returns
returns c = let a = c.args in feeds-open a.r a.bytes.now a.from _ c.cut_line-c.ensures c.if-c.false
