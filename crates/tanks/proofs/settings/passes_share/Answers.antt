-- `passes_share` meets its contract: each test by its case.
use mathlib.Core.Path.{refl, sym, ◌∙◌}
use mathlib.Core.Bool.{false≢true}
use mathlib.Core.Logic.{inl, inr}
use borrow.Author.Tests.{lt-ltb, le-ltb}
use Rattle.tank.specs.Rules.{passes_share}
use Rattle.tanks.proofs.settings.passes_share.Goals as goal
use Rattle.tanks.proofs.settings.passes_share.Goals.{then-is_lab, else-is_lab}

pub returns-then-before-n : goal.returns-then-before-n
unfolding passes_share
returns-then-before-n c = rw (sym c.is_lab.ensures ∙ c.if-before-n.true.0, lt-ltb c.args.before c.args.n c.if-before-n.true.1) refl

pub returns-else-before-n : goal.returns-else-before-n
unfolding passes_share
returns-else-before-n c =
    elim c.if-is_lab.branch [
      | then-is_lab w ↦
          w.t-6-is
          ∙ rw (sym c.is_lab.ensures ∙ w.if-is_lab.true)
          (elim c.if-before-n.either [ inl e ↦ rw (le-ltb c.args.before c.args.n e.1) refl | inr e ↦ absurd (false≢true (sym e ∙ w.if-is_lab.true)) ])
      | else-is_lab w ↦ w.t-6-is ∙ w.if-is_lab.false ∙ rw (sym c.is_lab.ensures ∙ w.if-is_lab.false) refl
    ]
