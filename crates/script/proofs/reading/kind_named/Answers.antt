-- Four names are tried, the last first.
use Rattle.script.specs.Reading.{kind_named}
use Rattle.script.proofs.reading.kind_named.Goals as goal

pub returns : goal.returns
unfolding kind_named
returns c = rw (c.or_kind.ensures, c.or_kind-c.ensures, c.or_kind-b.ensures, c.or_kind-a.ensures)
