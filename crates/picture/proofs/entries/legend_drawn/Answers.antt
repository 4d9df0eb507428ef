-- One behind the other.
use Prim.Native.Nat.{ℕ, ◌+◌}
use mathlib.Core.Path.{ap, ap₂, ◌∙◌}
use Rattle.picture.proofs.LaneLaws.{one_is}
use Rattle.answers.proofs.Laws.{and_then, adds_as}
use Rattle.picture.specs.Picture.{others_say, held_says, legend_says}
use Rattle.picture.proofs.entries.legend_drawn.Goals as goal

pub returns : goal.returns
unfolding legend_says
returns c =
    let a = c.args in
    let e = c.key_count-n.ensures.0 in
    and_then c.entries-a.ensures (and_then (adds_as (ap (λ (n : ℕ). others_say n a.some) e) c.others-b.ensures) (adds_as (ap₂ (λ (n k : ℕ). held_says (n + k) a.hold) e (c.from.ensures ∙ one_is a.some)) c.held_entry.ensures))
