-- How the call stands is by the field that comes next.
use Rattle.script.specs.Reading.{moved_of}
use Rattle.script.proofs.reading.moved.Goals as goal

pub returns : goal.returns
unfolding moved_of
returns c = rw (c.progress-stands.ensures, c.field_holds.ensures, c.field_at.ensures)
