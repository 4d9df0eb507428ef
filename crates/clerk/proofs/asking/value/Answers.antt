-- The answer of the call, as it says; the key is the number that was read.
use Prim.Native.Nat.{ℕ}
use mathlib.Core.Path.{ap, ◌∙◌}
use Rattle.questions.specs.declared.Shown.{Shown}
use Rattle.questions.specs.Questions.{value_at}
use Rattle.ask.specs.Parts.{ask_in}
use Rattle.script.specs.Args.{number_at}
use Rattle.answers.proofs.Laws.{adds_as}
use Rattle.answers.specs.Replies.{shown_says}
use Rattle.clerk.specs.Calls.{look_says}
use Rattle.clerk.proofs.asking.value.Goals as goal

pub value_at-v-requires : goal.value_at-v-requires
value_at-v-requires c = c.requires.can_ask

pub returns : goal.returns
unfolding look_says
returns c =
    let a = c.args in
    adds_as
    (ap shown_says
    (c.value_at-v.ensures
    ∙ ap (λ (k : ℕ). ask_in a.heads a.pool a.table (number_at a.call 0) a.who (Shown.Refused 1) (value_at (number_at a.call 1) k)) c.key_of-key.ensures))
    c.put_shown.ensures
