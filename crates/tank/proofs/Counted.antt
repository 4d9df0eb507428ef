-- Runs held, counted from the positions, are the runs in joined form.
use Prim.Native.Nat.{ℕ, suc, ◌<◌, ◌^◌}
use mathlib.Core.Path.{◌≡◌, sym, ◌∙◌}
use mathlib.Core.List.{List}
use lib.Dec.{eqb}
use lib.ListN.{length}
use lib.Pow.{pow_pos}
use Rattle.styles.specs.declared.Mark.{Mark}
use Rattle.styles.specs.Marks.{Sorted, same_marks}
use Rattle.styles.specs.Bits.{pick}
use Rattle.styles.proofs.SameLaws.{same_pick}
use Rattle.runs.specs.Runs.{Run, total, set_at, Canon}
use Rattle.runs.specs.Positions.{stretch_count}
use Rattle.runs.specs.Gather.{gather}
use Rattle.runs.proofs.GatherLaws.{all_at_lem}
use Rattle.runs.proofs.RenumberLaws.{sets_less}
use Rattle.runs.proofs.StretchLaws.{stretch_count_ext, count_stretches}
use Rattle.tank.specs.Rules.{alike}

-- a set at a position is no more than all sets together
pub at_inside : (rs : List Run) (k p : ℕ) → gather rs < 2 ^ k → set_at rs p < 2 ^ k
at_inside rs k p h = all_at_lem (λ s. s < 2 ^ k) rs (pow_pos k) (sets_less k rs h) p

-- sets of marks differ exactly where their bits do
module _ (ms : List Mark) (rs : List Run) (sorted : Sorted ms) (inside : gather rs < 2 ^ length ms) where
  pub alike_at : (p q : ℕ) → same_marks (pick ms (set_at rs p)) (pick ms (set_at rs q)) ≡ eqb (set_at rs p) (set_at rs q)
  alike_at p q = same_pick ms (set_at rs p) (set_at rs q) sorted (at_inside rs (length ms) p inside) (at_inside rs (length ms) q inside)

  pub counted : Canon rs → stretch_count (alike (λ p. pick ms (set_at rs p))) (total rs) ≡ length rs
  counted c = stretch_count_ext _ _ (total rs) (λ p h. alike_at p (suc p)) ∙ sym (count_stretches rs c)
