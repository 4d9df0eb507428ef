-- `apply_plan` meets its contract: the laboratory is refused, and the plant's call is the one without a party.
use mathlib.Core.Path.{sym, ◌∙◌}
use Rattle.night.proofs.PartyCalls.{plant_applies, lab_applies}
use Rattle.night.proofs.apply_plan.Goals as goal

pub returns-then-is_lab : goal.returns-then-is_lab
returns-then-is_lab c = lab_applies c.args.who (sym c.is_lab.ensures ∙ c.if-is_lab.true) c.requires c.barred.ensures

pub returns : goal.returns
returns c = plant_applies c.args.who (sym c.is_lab.ensures ∙ c.if-is_lab.false) c.apply_as_plant.ensures
