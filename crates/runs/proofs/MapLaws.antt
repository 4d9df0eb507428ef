-- A renumbering of sets in place: the runs stay as they are, and every position's set is changed.
use Prim.Native.Nat.{ℕ, zero, suc, ◌+◌, ◌<◌}
use mathlib.Core.Path.{◌≡◌, refl, sym, ap₂, ◌∙◌, subst}
use mathlib.Core.List.{List, [], ◌∷◌}
use native.Mathlib.Omega.{arith}
use native.Mathlib.Decide.{dec_lt}
use lib.ListN.{length, get_or, set, length-set}
use lib.Seq.{get_or-set_same, get_or-set_other}
use Rattle.runs.specs.Runs.{Run, run, runs, total, set_at, Other, Canon, Spare}
use Rattle.runs.specs.Gather.{Renumbered}
use Rattle.laws.proofs.Cases.{cond_ap}

-- each set is one of which P holds
unfoldable pub AllSets : (ℕ → Type 0) → List Run → Type 0
AllSets P [] = Unit {0}
AllSets P (r ∷ rs) = P r.set × AllSets P rs

-- the runs with each set changed by f, where f keeps different sets different: nothing is joined
unfoldable pub map_runs : (ℕ → ℕ) → List Run → List Run
map_runs f [] = []
map_runs f (r ∷ rs) = run r.len (f r.set) ∷ map_runs f rs

module _ (f : ℕ → ℕ) where
  pub total_map : (rs : List Run) → total (map_runs f rs) ≡ total rs
  unfolding total map_runs
  total_map [] = refl
  total_map (r ∷ rs) = omega (arith, total_map rs)

  -- where the empty set stays empty, also past the end
  pub at_map : f 0 ≡ 0 → (rs : List Run) (p : ℕ) → set_at (map_runs f rs) p ≡ f (set_at rs p)
  unfolding map_runs set_at
  at_map none [] p = sym none
  at_map none (r ∷ rs) p = rw (total_map rs, at_map none rs p, cond_ap f, cond_ap f, none)

  -- different sets stay different
  module _ (P : ℕ → Type 0) (tells : (x y : ℕ) → P x → P y → f x ≡ f y → x ≡ y) where
    other_map : (s : ℕ) (rs : List Run) → P s → AllSets P rs → Other s rs → Other (f s) (map_runs f rs)
    unfolding Other map_runs AllSets
    other_map s [] h a o = tt
    other_map s (r ∷ rs) h a o = λ e. o (tells r.set s a.0 h e)

    pub canon_map : (rs : List Run) → AllSets P rs → Canon rs → Canon (map_runs f rs)
    unfolding Canon map_runs AllSets
    canon_map [] a c = tt
    canon_map (r ∷ rs) a c = (c.0, other_map r.set rs a.0 a.1 c.1, canon_map rs a.1 c.2)

-- ---- sets renumbered where they stand, one at a time
pub renumber_none : (becomes : ℕ → ℕ → Type 0) (sets : List ℕ) → Renumbered becomes 0 sets sets
renumber_none becomes sets = record { front = λ j h. absurd (omega arith); rest = λ j h. refl; kept = refl }

pub renumber_more : (becomes : ℕ → ℕ → Type 0) {before sets : List ℕ} (k v : ℕ) → Renumbered becomes k before sets → k < length before → becomes (get_or sets k 0) v
    → Renumbered becomes (k + 1) before (set sets k v)
renumber_more becomes {before} {sets} k v s h e =
    record {
      front = λ j g.
          elim (dec_lt j k) [
            | yes l ↦ subst (becomes (get_or before j 0)) (sym (get_or-set_other sets k j v 0 (omega arith))) (s.front j l)
            | no l ↦
                let i : j ≡ k = omega arith in
                rw (i, get_or-set_same sets k v 0 (omega (arith, s.kept))) (subst (λ (x : ℕ). becomes x v) (s.rest k (omega arith)) e)
          ];
      rest = λ j g. get_or-set_other sets k j v 0 (omega arith) ∙ s.rest j (omega arith);
      kept = length-set sets k v ∙ s.kept;
    }

-- the runs that the sets stand in are changed by f, whatever their lengths, where only f gives what the sets become
runs_map : (f : ℕ → ℕ) (lens before after : List ℕ) (n : ℕ) → ((j : ℕ) → j < n → get_or after j 0 ≡ f (get_or before j 0))
    → runs lens after n ≡ map_runs f (runs lens before n)
unfolding runs map_runs
runs_map f lens before after zero h = refl
runs_map f lens before after (suc n) h =
    ap₂ (λ (s : ℕ) (rs : List Run). run (get_or lens n 0) s ∷ rs) (h n (omega arith)) (runs_map f lens before after n (λ j g. h j (omega arith)))

-- sets that stay as they are, and two renumberings one after the other
pub renumber_self : (becomes : ℕ → ℕ → Type 0) (n : ℕ) (sets : List ℕ) → ((j : ℕ) → j < n → becomes (get_or sets j 0) (get_or sets j 0)) → Renumbered becomes n sets sets
renumber_self becomes n sets h = record { front = h; rest = λ j l. refl; kept = refl }

pub renumber_then : {first second both : ℕ → ℕ → Type 0} → ((x y z : ℕ) → first x y → second y z → both x z) → {n : ℕ} {before between after : List ℕ}
    → Renumbered first n before between → Renumbered second n between after → Renumbered both n before after
renumber_then f s t = record { front = λ j h. f _ _ _ (s.front j h) (t.front j h); rest = λ j h. t.rest j h ∙ s.rest j h; kept = t.kept ∙ s.kept }

pub renumber_runs : (becomes : ℕ → ℕ → Type 0) (f : ℕ → ℕ) → ((s r : ℕ) → becomes s r → r ≡ f s) → {n : ℕ} {before after : List ℕ} (lens : List ℕ)
    → Renumbered becomes n before after → runs lens after n ≡ map_runs f (runs lens before n)
renumber_runs becomes f only lens s = runs_map f lens _ _ _ (λ j h. only _ _ (s.front j h))

-- blank places stay blank
pub renumber_spare : {becomes : ℕ → ℕ → Type 0} {n : ℕ} {before after : List ℕ} (lens : List ℕ) → Renumbered becomes n before after → Spare lens before n → Spare lens after n
unfolding Spare
renumber_spare lens s p i h = ((p i h).0, s.rest i h ∙ (p i h).1)

-- what holds of each of the first n sets, by its place
pub all_sets_at : (P : ℕ → Type 0) (lens sets : List ℕ) (n : ℕ) → AllSets P (runs lens sets n) → (j : ℕ) → j < n → P (get_or sets j 0)
unfolding AllSets runs
all_sets_at P lens sets zero a j h = absurd (omega arith)
all_sets_at P lens sets (suc n) a j h =
    elim (dec_lt j n) [
      | yes k ↦ all_sets_at P lens sets n a.1 j k
      | no k ↦ let e : j ≡ n = omega arith in rw e a.0
    ]
