-- A bad line changes nothing; a name starts a call, which stands by its first field.
use Rattle.script.proofs.reading.with_op.Goals as goal

pub returns-in_default : goal.returns-in_default
returns-in_default c = rw c.in_default.is c.bad.ensures

pub returns : goal.returns
returns c = rw (c.in-Some.is, c.fresh-next.ensures, c.progress-stands.ensures, c.field_holds.ensures, c.field_at.ensures)
