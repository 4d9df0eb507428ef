-- A whole tank's anchors computed on runs, where there are more positions than can be looked at.
use Prim.Native.Nat.{ℕ, zero, suc, ◌<◌}
use mathlib.Core.Path.{◌≡◌, refl, ap, ap₂, ◌∙◌}
use mathlib.Core.Bool.{Bool}
use mathlib.Core.List.{List, [], ◌∷◌, ◌++◌}
use native.Mathlib.Omega.{arith}
use Rattle.styles.specs.declared.Mark.{Mark}
use Rattle.styles.specs.Marks.{Sorted}
use Rattle.runs.specs.Runs.{Run, total, set_at, Canon}
use Rattle.runs.proofs.Laws.{at_in, at_last}
use Rattle.tank.specs.Rules.{View}
use Rattle.tank.specs.State.{view_of}
use Rattle.lists.specs.declared.anchors.Anchor.{Anchor}
use Rattle.lists.specs.Anchors.{boundaries, anchors, between}
use Rattle.lists.proofs.AnchorLaws.{set_before, ByBits, run_more, anchors_end, runs_by}

-- the anchors of the boundaries that runs begin at
unfoldable pub edges : List Mark → List Run → List Anchor
edges ms [] = []
edges ms (r ∷ rs) = edges ms rs ++ between ms (total rs) (set_before rs (total rs)) r.set

-- and of the one behind the last
unfoldable pub anchors_on : List Mark → List Run → List Anchor
unfolding edges
anchors_on ms rs = edges ms rs ++ between ms (total rs) (set_before rs (total rs)) 0

module _ (touched : Bool) (ms : List Mark) (all : List Run) (sorted : Sorted ms) where
  abbrev meant : View
  meant = view_of touched (total all) ms all

  by : ByBits ms (set_at all) (view_of touched (total all) ms all)
  by = runs_by touched (total all) ms all sorted refl

  -- the runs are the first of all
  abbrev First : List Run → Type 0
  First rs = (p : ℕ) → p < total rs → set_at all p ≡ set_at rs p

  set_before_lem : (rs : List Run) → First rs → set_before all (total rs) ≡ set_before rs (total rs)
  set_before_lem rs same = go (total rs) refl
    where
      go : (n : ℕ) → total rs ≡ n → set_before all n ≡ set_before rs n
      go zero e = refl
      go (suc n) e = same n (omega arith)

  edges_are : (rs : List Run) → Canon rs → First rs → boundaries 0 (total rs) meant ≡ edges ms rs
  unfolding edges total Canon boundaries
  edges_are [] c same = refl
  edges_are (r ∷ rs) c same =
      run_more by (total rs) r.len r.set c.0 (λ q a b. same q (omega arith) ∙ at_last r rs q a (omega arith))
      ∙ ap₂ (λ (x : List Anchor) s. x ++ between ms (total rs) s r.set)
      (edges_are rs c.2 (λ p h. same p (omega arith) ∙ at_in r rs p h)) (set_before_lem rs (λ p h. same p (omega arith) ∙ at_in r rs p h))

  pub anchors_on_lem : Canon all → anchors (view_of touched (total all) ms all) ≡ anchors_on ms all
  unfolding anchors_on
  anchors_on_lem c =
      anchors_end by (total all) refl
      ∙ ap (λ (x : List Anchor). x ++ between ms (total all) (set_before all (total all)) 0) (edges_are all c (λ p h. refl))
