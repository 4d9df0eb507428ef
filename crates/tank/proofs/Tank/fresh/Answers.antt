-- `Tank::fresh` meets its contract: one run without marks, blank behind it.
use mathlib.Core.Path.{refl, ap, ◌∙◌}
use lib.ListN.{get_or, replicate}
use Rattle.laws.proofs.Lists.{get_d_blank}
use Rattle.styles.specs.declared.Mark.{Mark}
use Rattle.styles.specs.Marks.{blank}
use Rattle.tank.proofs.FreshLaws.{fresh_sound}
use Rattle.tank.proofs.Shape.{all_spare}
use Rattle.tank.proofs.Tank.fresh.Goals as goal

pub returns : goal.returns
returns c =
    fresh_sound (replicate 514 0) (replicate 514 0) (all_spare 514) refl refl (replicate 64 c.blank-blank.result) refl
    (λ i. ap (λ (b : Mark). get_or (replicate 64 b) i blank) c.blank-blank.ensures ∙ get_d_blank blank 64 i)
