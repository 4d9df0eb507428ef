-- The ageing that the call asks for, and its answer.
use mathlib.Core.Path.{◌≡◌}
use Prim.Native.Nat.{ℕ}
use Rattle.answers.proofs.Laws.{adds_as}
use Rattle.answers.specs.Replies.{aged_says}
use Rattle.clerk.specs.Calls.{changed, change_says}
use Rattle.clerk.proofs.changes.aged.Goals as goal

same_answer : {n n' d d' r r' : ℕ} → n ≡ n' → d ≡ d' → r ≡ r' → aged_says n d r ≡ aged_says n' d' r'
same_answer e f g = λ i. aged_says (e i) (f i) (g i)

pub returns : goal.returns
unfolding changed change_says
returns c =
    let a = c.age-e.ensures in
    record { sound = a.sound; is = a.is; answer = adds_as (same_answer a.number_is a.dropped_is a.remaining_is) c.aged_or-k.ensures }
