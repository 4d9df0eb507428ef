-- The answer of the call, as it says; the hold key is the number that was read.
use Prim.Native.Nat.{ℕ}
use mathlib.Core.Path.{ap, ◌∙◌}
use Rattle.answers.proofs.Laws.{adds_as}
use Rattle.answers.specs.Replies.{proposal_says}
use Rattle.night.specs.Proposing.{proposal_at}
use Rattle.clerk.specs.Calls.{answer_says}
use Rattle.script.specs.Args.{number_at}
use Rattle.tanks.specs.Pool.{meaning}
use Rattle.clerk.proofs.asking.propose.Goals as goal

pub returns : goal.returns
unfolding answer_says
returns c =
    let a = c.args in
    adds_as
    (ap proposal_says (c.propose-p.ensures ∙ ap (λ (k : ℕ). proposal_at (meaning a.s) (number_at a.call 0) k (number_at a.call 2)) c.key_of.ensures))
    c.put_proposal.ensures
