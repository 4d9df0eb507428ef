-- The edits of run lists over a table of marks mean what the rules say, position by position.
use Prim.Native.Nat.{ℕ, ◌+◌, ◌-◌, ◌≤◌, ◌<◌}
use mathlib.Core.Path.{◌≡◌, refl, ap, ap₂, ◌∙◌, fun_ext}
use mathlib.Core.Bool.{Bool, true, cond}
use mathlib.Core.List.{List}
use native.Mathlib.Omega.{arith}
use native.Mathlib.Decide.{dec_le}
use lib.Dec.{ltb}
use borrow.Author.Tests.{lt-ltb, le-ltb, le-leb, lt-leb}
use Rattle.laws.proofs.Cases.{cond_ap}
use Rattle.styles.specs.declared.Mark.{Mark}
use Rattle.styles.specs.Bits.{pick}
use Rattle.runs.specs.Runs.{Run, total, set_at}
use Rattle.runs.proofs.Copies.{altered, deleted, inserted}
use Rattle.runs.proofs.EditLaws.{total_altered, at_altered, total_deleted, at_deleted, total_inserted, at_inserted}
use Rattle.runs.proofs.MapLaws.{map_runs, at_map}
use Rattle.tank.specs.Rules.{View, inherited, after_insert, after_delete}
use Rattle.runs.specs.Positions.{within, altered_at}
use Rattle.tank.specs.State.{view_of}

-- two views are equal where they agree at each position
pub view_ext : (u v : View) → u.length ≡ v.length → u.touched ≡ v.touched → ((p : ℕ) → u.at p ≡ v.at p) → u ≡ v
view_ext u v l t h = λ i. record { length = l i; touched = t i; at = fun_ext h i }

-- ---- a test of a range, by where the position is
module _ {A : Type 0} (a b p : ℕ) (x y : A) where
  pub range_in : a ≤ p → p < b → cond (within a b p) x y ≡ x
  range_in g h = simp (le-leb a p g, lt-ltb p b h)

  pub range_before : p < a → cond (within a b p) x y ≡ y
  range_before h = simp (lt-leb a p h)

  pub range_past : b ≤ p → cond (within a b p) x y ≡ y
  range_past h =
      elim (dec_le a p) [
        | yes g ↦ simp (le-leb a p g, le-ltb p b h)
        | no g ↦ range_before (omega arith)
      ]

-- ---- a deletion
module _ (rs : List Run) (a b : ℕ) (up : a ≤ b) (fits : b ≤ total rs) where
  pub view_deleted : (ms : List Mark) → view_of true (total (deleted rs a b)) ms (deleted rs a b) ≡ after_delete a b (view_of true (total rs) ms rs)
  unfolding after_delete
  view_deleted ms =
      view_ext _ _ (total_deleted rs a b up fits) refl (λ p. ap (pick ms) (at_deleted rs a b up fits p) ∙ cond_ap (pick ms) (ltb p a) _ _)

-- ---- an insertion
module _ (rs : List Run) (pos l s : ℕ) (fits : pos ≤ total rs) where
  pub view_inserted : (ms : List Mark) → pick ms s ≡ inherited pos (view_of true (total rs) ms rs)
      → view_of true (total (inserted rs pos l s)) ms (inserted rs pos l s) ≡ after_insert pos l (view_of true (total rs) ms rs)
  unfolding after_insert
  view_inserted ms e =
      view_ext _ _ (total_inserted rs pos l s fits) refl
      (λ p.
      ap (pick ms) (at_inserted rs pos l s fits p) ∙ cond_ap (pick ms) (ltb p pos) _ _
      ∙ ap (cond (ltb p pos) (pick ms (set_at rs p)))
      (cond_ap (pick ms) (ltb p (pos + l)) _ _ ∙ ap (λ x. cond (ltb p (pos + l)) x (pick ms (set_at rs (p - l)))) e))

-- ---- sets changed in a range, where f does to a set's bits what g does to its marks
pub view_altered : (rs : List Run) (a b : ℕ) (f : ℕ → ℕ) → a ≤ b → b ≤ total rs → (ms : List Mark) (g : List Mark → List Mark) (t : Bool)
    → ((s : ℕ) → pick ms (f s) ≡ g (pick ms s))
    → view_of t (total (altered rs a b f)) ms (altered rs a b f) ≡ record { length = total rs; touched = t; at = altered_at a b g (λ p. pick ms (set_at rs p)) }
view_altered rs a b f up fits ms g t does =
    view_ext _ _ (total_altered rs a b f up fits) refl
    (λ p.
    ap (pick ms) (at_altered rs a b f up fits p) ∙ cond_ap (pick ms) (within a b p) _ _
    ∙ ap (λ x. cond (within a b p) x (pick ms (set_at rs p))) (does (set_at rs p)))

-- ---- sets and table renumbered together
pub view_renumbered : (t : Bool) (l : ℕ) (ms : List Mark) (rs : List Run) {ns table : List Mark} {qs : List Run} (f : ℕ → ℕ) → f 0 ≡ 0 → table ≡ ns → qs ≡ map_runs f rs
    → ((p : ℕ) → pick ns (f (set_at rs p)) ≡ pick ms (set_at rs p)) → view_of t l table qs ≡ view_of t l ms rs
view_renumbered t l ms rs {ns} f none front runs_are_lem same =
    view_ext _ _ refl refl (λ p. ap₂ (λ ms qs. pick ms (set_at qs p)) front runs_are_lem ∙ ap (pick ns) (at_map f none rs p) ∙ same p)
