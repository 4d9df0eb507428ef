-- The reader begins between two groups.
use mathlib.Core.Path.{◌≡◌, refl, sym, ap, subst}
use Rattle.script.specs.declared.Reader.{Reader}
use Rattle.day_log.specs.declared.Log.{Log}
use Rattle.day_log.specs.declared.Stop.{Stop}
use Rattle.day_log.specs.Log.{Sound}
use Rattle.day_log.proofs.Tidy.{tidy_empty}
use Rattle.day_log.proofs.begin.Goals as goal

pub returns : goal.returns
returns c =
    let e : ◌≡◌ {A = Log} _ _ = ap (λ (r : Reader). record { reader = r; edits = 0; stop = Stop.Going }) c.begin-reader.ensures in
    (e, subst Sound (sym e) (record { op = refl; tidy = tidy_empty }))
