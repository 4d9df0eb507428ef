-- The answer of the call, as it says; the key is the number that was read.
use Prim.Native.Nat.{ℕ}
use mathlib.Core.Path.{ap, ◌∙◌}
use Rattle.questions.specs.declared.Told.{Told}
use Rattle.questions.specs.Questions.{range_contains_key}
use Rattle.ask.specs.Parts.{ask_in}
use Rattle.script.specs.Args.{number_at}
use Rattle.answers.proofs.Laws.{adds_as}
use Rattle.answers.specs.Replies.{told_says}
use Rattle.clerk.specs.Calls.{look_says}
use Rattle.clerk.proofs.asking.has_key.Goals as goal

pub range_contains_key-t-requires : goal.range_contains_key-t-requires
range_contains_key-t-requires c = c.requires.can_ask

pub returns : goal.returns
unfolding look_says
returns c =
    let a = c.args in
    adds_as
    (ap told_says
    (c.range_contains_key-t.ensures
    ∙ ap (λ (k : ℕ). ask_in a.heads a.pool a.table (number_at a.call 0) a.who (Told.Refused 1) (range_contains_key (number_at a.call 1) (number_at a.call 2) k)) c.key_of-key.ensures))
    c.put_told.ensures
