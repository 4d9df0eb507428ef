-- One line, then the other.
use mathlib.Core.Path.{ap}
use Prim.Native.Nat.{ℕ}
use mathlib.Core.List.{List}
use Rattle.answers.proofs.Laws.{and_then, adds_as}
use Rattle.answers.specs.Replies.{line_says}
use Rattle.answers.proofs.settings.put_pair.Goals as goal

pub returns : goal.returns
returns c =
    let a = c.args in
    and_then
    (adds_as (ap (λ (name : List ℕ). line_says name a.s.share) c.share_name-share.ensures) c.say-k.ensures)
    (adds_as (ap (λ (name : List ℕ). line_says name a.s.limit) c.limit_name-limit.ensures) c.say.ensures)
