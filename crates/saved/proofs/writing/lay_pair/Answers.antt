-- Two lines, one behind the other.
use native.Mathlib.Omega.{arith}
use Prim.Native.Nat.{ℕ}
use mathlib.Core.Path.{ap}
use mathlib.Core.List.{List}
use Rattle.text_lines.specs.Lines.{number_text}
use Rattle.saved.proofs.Laying.{lays_then, lays_as, lays_more}
use Rattle.saved.proofs.writing.lay_pair.Goals as goal

pub returns : goal.returns
returns c =
    let a = c.args in
    let share = lays_as (ap (λ (name : List ℕ). number_text name a.s.share) c.share_name-share.ensures) c.lay_number-a.ensures in
    let limit = lays_as (ap (λ (name : List ℕ). number_text name a.s.limit) c.limit_name-limit.ensures) c.lay_number.ensures in
    lays_more (omega arith) (lays_then share limit)
