-- Five lines, one behind the other.
use mathlib.Core.Path.{ap}
use Rattle.answers.proofs.Laws.{and_then, adds_as}
use Rattle.answers.specs.Replies.{line_says}
use Rattle.text.specs.Bytes.{bytes}
use Rattle.answers.proofs.listing.put_anchor.Goals as goal

pub returns : goal.returns
returns c =
    and_then
    (and_then
    (and_then
    (and_then c.say-b.ensures c.put_side-c.ensures)
    (adds_as (ap (line_says (bytes "key=")) c.wide16.ensures) c.say-d.ensures))
    (adds_as (ap (line_says (bytes "lamport=")) c.wide32.ensures) c.say-e.ensures))
    c.say.ensures
