-- `scan::all_show` meets its contract: no position hides it.
use mathlib.Core.Path.{sym, ap, ◌∙◌}
use mathlib.Core.Bool.{not}
use Rattle.runs.specs.Scan.{passes}
use Rattle.runs.proofs.ScanLaws.{all_is}
use Rattle.runs.proofs.scan.all_show.Goals as goal

pub returns : goal.returns
unfolding passes
returns c = ap not c.some_in.ensures ∙ sym (all_is _ _ _)
