-- `age` meets its contract: the laboratory is refused, and the plant's call is the one without a party.
use mathlib.Core.Path.{sym, ◌∙◌}
use Rattle.night.proofs.PartyCalls.{plant_ages, lab_ages}
use Rattle.night.proofs.age.Goals as goal

pub returns-then-is_lab : goal.returns-then-is_lab
returns-then-is_lab c =
    let k = c.not_aged.ensures in
    lab_ages c.args.who (sym c.is_lab.ensures ∙ c.if-is_lab.true) c.requires (k.0 ∙ c.barred.ensures, k.1, k.2, k.3)

pub returns : goal.returns
returns c = plant_ages c.args.who (sym c.is_lab.ensures ∙ c.if-is_lab.false) c.age_as_plant.ensures
