use Rattle.std.specs.Prelude.{Some, None}
use mathlib.Core.Path.{sym, ◌∙◌}
use Rattle.text.proofs.Steps.{number_from_lem, turn, ends}
use Rattle.text.proofs.number.Goals as goal

pub returns-in_err-v : goal.returns-in_err-v
returns-in_err-v c =
    rw c.from_residual.ensures (turn _ _ _ _ _ c.loop-c-test.true c.loop-c.invariant None (sym c.step.ensures ∙ c.in_err-v.was) ∙ number_from_lem _ c.requires _)

pub loop-c-preserved : goal.loop-c-preserved
loop-c-preserved c = turn _ _ _ _ _ c.loop-c-test.true c.loop-c.invariant (Some _) (sym c.step.ensures ∙ c.in_ok-v.was)

pub returns : goal.returns
returns c = ends _ _ _ _ _ c.loop-c-test.false c.loop-c.invariant ∙ number_from_lem _ c.requires _
