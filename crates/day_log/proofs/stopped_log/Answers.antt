-- The reader begins anew.
use mathlib.Core.Path.{ap}
use Rattle.script.specs.declared.Reader.{Reader}
use Rattle.day_log.specs.declared.Log.{Log}
use Rattle.day_log.specs.declared.Stop.{Stop}
use Rattle.day_log.proofs.stopped_log.Goals as goal

pub returns : goal.returns
returns c = let a = c.args in ap {B = Log} (λ (r : Reader). record { reader = r; edits = a.edits; stop = Stop.Refused a.line a.number }) c.begin-reader.ensures
