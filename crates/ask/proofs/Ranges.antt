-- The ranges of positions, with their marks, that runs over a table mean.
use Prim.Native.Nat.{ℕ, ◌+◌, ◌≤◌}
use mathlib.Core.Path.{◌≡◌, refl, sym, ap, ◌∙◌}
use mathlib.Core.Bool.{Bool, true, false, cond}
use mathlib.Core.List.{List, [], ◌∷◌, ◌++◌}
use native.Mathlib.Omega.{arith}
use native.Mathlib.Decide.{dec_lt}
use lib.Dec.{eqb}
use borrow.Author.Tests.{eqb-true}
use Rattle.styles.specs.declared.Mark.{Mark}
use Rattle.styles.specs.Bits.{pick}
use Rattle.styles.proofs.UnionLaws.{pick_none}
use Rattle.runs.specs.Runs.{Run, total, set_at}
use Rattle.runs.proofs.Laws.{at_in, at_last, at_past}
use Rattle.runs.specs.Positions.{within}
use Rattle.tank.proofs.ViewLaws.{range_in, range_before, range_past}
use Rattle.laws.proofs.Cases.{cond_same, cond_by}
use Rattle.ask.specs.Examples.{Range, on, marks_at}

-- ---- the ranges of runs over a table, without those that carry nothing
unfoldable pub range_of : List Mark → ℕ → ℕ → ℕ → List Range
range_of ms start len set = cond (eqb set 0) [] (on start (start + len) (pick ms set) ∷ [])

unfoldable pub ranges : List Mark → List Run → List Range
ranges ms [] = []
ranges ms (r ∷ rs) = ranges ms rs ++ range_of ms (total rs) r.len r.set

-- ---- where the ranges end
unfoldable Below : ℕ → List Range → Type 0
Below n [] = Unit {0}
Below n (r ∷ rs) = (r.end ≤ n) × Below n rs

below_append : (n m : ℕ) (xs ys : List Range) → n ≤ m → Below n xs → Below m ys → Below m (xs ++ ys)
unfolding Below
below_append n m [] ys h a b = b
below_append n m (x ∷ xs) ys h a b = let k = a.0 in (omega arith, below_append n m xs ys h a.1 b)

below_range : (ms : List Mark) (start len set : ℕ) → Below (start + len) (range_of ms start len set)
unfolding Below range_of
below_range ms start len set = cond_by (Below (start + len)) (eqb set 0) tt (omega arith, tt)

below_ranges : (ms : List Mark) (rs : List Run) → Below (total rs) (ranges ms rs)
unfolding Below ranges total
below_ranges ms [] = tt
below_ranges ms (r ∷ rs) =
    below_append (total rs) (total rs + r.len) (ranges ms rs) _ (omega arith) (below_ranges ms rs) (below_range ms (total rs) r.len r.set)

-- ---- a position past the first ranges, or out of the others
past_first : (n p : ℕ) (xs ys : List Range) → Below n xs → n ≤ p → marks_at (xs ++ ys) p ≡ marks_at ys p
unfolding Below marks_at
past_first n p [] ys b h = refl
past_first n p (x ∷ xs) ys b h = let k = b.0 in range_past x.start x.end p _ _ (omega arith) ∙ past_first n p xs ys b.1 h

in_first : (p : ℕ) (xs ys : List Range) → marks_at ys p ≡ [] → marks_at (xs ++ ys) p ≡ marks_at xs p
unfolding marks_at
in_first p [] ys e = e
in_first p (x ∷ xs) ys e = ap (cond (within x.start x.end p) x.marks) (in_first p xs ys e)

one_range : (ms : List Mark) (start len set p : ℕ) → marks_at (range_of ms start len set) p ≡ cond (within start (start + len) p) (pick ms set) []
unfolding range_of marks_at
one_range ms start len set p = go (eqb set 0) refl
  where
    go : (b : Bool) → eqb set 0 ≡ b → marks_at (cond b [] (on start (start + len) (pick ms set) ∷ [])) p ≡ cond (within start (start + len) p) (pick ms set) []
    go true e =
        sym (ap (λ x. cond (within start (start + len) p) x []) (ap (pick ms) (eqb-true set 0 e) ∙ pick_none ms) ∙ cond_same (within start (start + len) p))
    go false e = refl

-- ---- runs and their ranges carry the same marks
pub ranges_at : (ms : List Mark) (rs : List Run) (p : ℕ) → marks_at (ranges ms rs) p ≡ pick ms (set_at rs p)
unfolding ranges total marks_at set_at
ranges_at ms [] p = sym (pick_none ms)
ranges_at ms (r ∷ rs) p =
    elim (dec_lt p (total rs)) [
      | yes h ↦
          in_first p (ranges ms rs) _ (one_range ms (total rs) r.len r.set p ∙ range_before (total rs) (total rs + r.len) p _ _ h)
          ∙ ranges_at ms rs p ∙ ap (pick ms) (sym (at_in r rs p h))
      | no h ↦
          past_first (total rs) p (ranges ms rs) _ (below_ranges ms rs) (omega arith) ∙ one_range ms (total rs) r.len r.set p
          ∙ (elim (dec_lt p (total rs + r.len)) [
            | yes k ↦ range_in (total rs) (total rs + r.len) p _ _ (omega arith) k ∙ ap (pick ms) (sym (at_last r rs p (omega arith) k))
            | no k ↦
                range_past (total rs) (total rs + r.len) p _ _ (omega arith)
                ∙ sym (ap (pick ms) (at_past (r ∷ rs) p (omega arith)) ∙ pick_none ms)
          ])
    ]
