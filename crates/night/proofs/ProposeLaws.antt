-- The proposer: what it gives is accepted and takes no more than needed, and where the unheld positions form at most 32 ranges it gives
-- no plan only where none at all would be accepted.
use Prim.Native.Nat.{ℕ, ◌+◌, ◌≤◌, ◌<◌}
use mathlib.Core.Path.{◌≡◌, refl, sym, ap, ap₂, ◌∙◌}
use mathlib.Core.Bool.{Bool, true, false, cond, not, ◌&&◌, and-eq-true_iff, true≢false, false≢true}
use mathlib.Core.List.{List, [], ◌∷◌}
use Rattle.std.proofs.Common.{Option, Some, None}
use native.Mathlib.Omega.{arith}
use native.Mathlib.Decide.{dec_lt, dec_le}
use lib.Dec.{leb}
use lib.ListN.{length}
use borrow.Author.Tests.{le-leb, leb-true, not-true}
use Rattle.runs.specs.Positions.{any_at, seek_from}
use Rattle.runs.proofs.ScanLaws.{any_no, any_none}
use Rattle.runs.proofs.SeekLaws.{seek_to, seek_before, seek_at, seek_is}
use Rattle.tank.specs.Rules.{View, runs_held}
use Rattle.night.specs.declared.Range.{Range}
use Rattle.night.specs.Plans.{planned, in_order, held_at, free_of, after_plan, no_ranges, may_go, accepts_plan}
use Rattle.night.specs.Proposing.{unheld_at, ranges_from, unheld_below, works_below, least_below, proposed, range_count}
use Rattle.night.proofs.PlanLaws.{planned_to, plan_fewer, out_range, past_range}
use Rattle.night.proofs.RangeLaws.{ranges_order, ranges_few, ranges_pass, ranges_cover, ranges_grow, begin_first, order_wider}

-- ---- by cases
by_two : {P : Type 0} (b : Bool) → (b ≡ true → P) → (b ≡ false → P) → P
by_two true y n = y refl
by_two false y n = n refl

pub is_false : (b : Bool) → (b ≡ true → ⊥) → b ≡ false
is_false true n = absurd (n refl)
is_false false n = refl

none_some : {A : Type 0} (x : A) → ◌≡◌ {A = Option A} None (Some x) → ⊥
none_some {A} x e = let o : ◌≡◌ {A = ℕ} 0 1 = ap tag e in absurd (omega arith)
  where
    tag : Option A → ℕ
    tag None = 0
    tag (Some y) = 1

-- ---- a plan that is free of the hold key takes unheld positions alone
free_unheld : (hold : ℕ) (v : View) (xs : List Range) → free_of hold v xs ≡ true → (p : ℕ) → planned xs p ≡ true → unheld_at hold v p ≡ true
unfolding free_of planned
free_unheld hold v [] f p e = absurd (false≢true e)
free_unheld hold v (x ∷ xs) f p e =
    let a = (and-eq-true_iff (not (any_at (held_at hold v) x.start x.end)) _).0 f in
    let free = not-true _ a.0 in
    elim (dec_le x.start p) [
      | no h ↦ free_unheld hold v xs a.1 p (rw (out_range x.start x.end p (omega arith)) at e)
      | yes h ↦
          elim (dec_lt p x.end) [
            | yes g ↦ ap not (any_none (held_at hold v) x.start x.end free p h g)
            | no g ↦ free_unheld hold v xs a.1 p (rw (past_range x.start x.end p (omega arith)) at e)
          ]
    ]

module _ (hold : ℕ) (v : View) where
  -- ---- the unheld ranges below a position
  pub below_order : (p : ℕ) → p ≤ v.length → in_order 0 v.length (unheld_below hold v p) ≡ true
  below_order p h = order_wider 0 p v.length (unheld_below hold v p) h (ranges_order (unheld_at hold v) p 32 0 (omega arith))

  pub below_few : (p : ℕ) → length (unheld_below hold v p) ≤ 32
  below_few p = ranges_few (unheld_at hold v) p 32 0 (omega arith)

  pub below_free : (p : ℕ) → free_of hold v (unheld_below hold v p) ≡ true
  unfolding free_of
  below_free p =
      ranges_pass (unheld_at hold v) p (λ a b. not (any_at (held_at hold v) a b))
      (λ a b h. ap not (any_no (held_at hold v) a b (λ q c d. not-true (held_at hold v q) (h q c d))))
      32 0 (omega arith) (free_of hold v) refl (λ x xs. refl)

  -- at most 32 ranges: those below the length take all unheld positions
  below_all : range_count (unheld_at hold v) v.length ≤ 32 → (p : ℕ) → p < v.length → unheld_at hold v p ≡ true → planned (unheld_below hold v v.length) p ≡ true
  below_all few p d e =
      ranges_cover (unheld_at hold v) v.length 32 0 (omega arith) (λ h g. begin_first (unheld_at hold v) g) (omega arith) p (omega arith) d e

  -- ---- acceptance, by its parts
  pub record Accepted (most : ℕ) (plan : List Range) : Type 0 where
    pub few : length plan ≤ 32
    pub order : in_order 0 v.length plan ≡ true
    pub free : free_of hold v plan ≡ true
    pub left : runs_held (after_plan plan v) ≤ most

  pub accepted_parts : (most : ℕ) (plan : List Range) → v.touched ≡ true → accepts_plan hold most plan v ≡ true → Accepted most plan
  unfolding accepts_plan may_go
  accepted_parts most plan t e =
      let a = (and-eq-true_iff (leb (length plan) 32) _).0 e in
      let b = (and-eq-true_iff (may_go hold plan v) _).0 a.1 in
      let m : (in_order 0 v.length plan && free_of hold v plan) ≡ true =
      ap (λ b. cond b (in_order 0 v.length plan && free_of hold v plan) (no_ranges plan)) (sym t) ∙ b.0 in
      let c = (and-eq-true_iff (in_order 0 v.length plan) _).0 m in
      record { few = leb-true _ 32 a.0; order = c.0; free = c.1; left = leb-true _ most b.1 }

  pub accepted_of : (most : ℕ) (plan : List Range) → v.touched ≡ true → Accepted most plan → accepts_plan hold most plan v ≡ true
  unfolding accepts_plan may_go
  accepted_of most plan t a =
      let m : may_go hold plan v ≡ true =
      ap (λ b. cond b (in_order 0 v.length plan && free_of hold v plan) (no_ranges plan)) t
      ∙ ap₂ (λ (x y : Bool). x && y) a.order a.free in
      ap₂ (λ (x y : Bool). x && y) (le-leb (length plan) 32 a.few)
      (ap₂ (λ (x y : Bool). x && y) m (le-leb (runs_held (after_plan plan v)) most a.left))

  -- an untouched tank accepts the empty plan if any
  untouched_accepts : (most : ℕ) (plan : List Range) → v.touched ≡ false → accepts_plan hold most plan v ≡ true → accepts_plan hold most [] v ≡ true
  unfolding accepts_plan may_go no_ranges
  untouched_accepts most [] t e = e
  untouched_accepts most (x ∷ xs) t e =
      let a = (and-eq-true_iff (leb (length (x ∷ xs)) 32) _).0 e in
      let b = (and-eq-true_iff (may_go hold (x ∷ xs) v) _).0 a.1 in
      absurd (true≢false (sym b.0 ∙ ap (λ b. cond b (in_order 0 v.length (x ∷ xs) && free_of hold v (x ∷ xs)) false) t))

  -- ---- taking out more never leaves more runs
  -- no plan that keeps the rules leaves fewer runs than deleting every unheld position
  pub all_unheld_fewest : v.touched ≡ true → range_count (unheld_at hold v) v.length ≤ 32 → (plan : List Range) → in_order 0 v.length plan ≡ true → free_of hold v plan ≡ true
      → runs_held (after_plan (unheld_below hold v v.length) v) ≤ runs_held (after_plan plan v)
  all_unheld_fewest t few plan order free =
      plan_fewer v t plan (unheld_below hold v v.length) order (below_order v.length (omega arith))
      (λ q r. below_all few q (inside q r) (free_unheld hold v plan free q r))
    where
      inside : (q : ℕ) → planned plan q ≡ true → q < v.length
      inside q r = elim (dec_lt q v.length) [ yes h ↦ h | no h ↦ absurd (true≢false (sym r ∙ planned_to 0 v.length plan order q (omega arith))) ]

  module _ (most : ℕ) where
    abbrev works : ℕ → Bool
    works p = works_below hold most v p

    abbrev least : ℕ
    least = least_below hold most v

    -- below a later position they are accepted too
    pub works_later : v.touched ≡ true → (p q : ℕ) → p ≤ q → q ≤ v.length → works p ≡ true → works q ≡ true
    works_later t p q h l e =
        let a = accepted_parts most (unheld_below hold v p) t e in
        let left = a.left in
        let fewer =
        plan_fewer v t (unheld_below hold v p) (unheld_below hold v q) a.order (below_order q l)
        (λ x i. ranges_grow (unheld_at hold v) p q h 32 0 x (omega arith) i) in
        accepted_of most (unheld_below hold v q) t (record { few = below_few q; order = below_order q l; free = below_free q; left = omega arith })

    below_none : unheld_below hold v 0 ≡ []
    unfolding ranges_from seek_from
    below_none = refl

    -- where nothing would not do and something would, the tank is touched
    pub works_touched : (p : ℕ) → works 0 ≡ false → works p ≡ true → v.touched ≡ true
    works_touched p z e =
        by_two v.touched (λ t. t)
        (λ t. absurd (true≢false (sym (ap (λ (xs : List Range). accepts_plan hold most xs v) below_none ∙ untouched_accepts most (unheld_below hold v p) t e) ∙ z)))

    pub least_within : least ≤ v.length
    least_within = omega (arith, seek_to works 0 v.length)

    -- where they are accepted below some position, they are below the least
    pub works_least : (q : ℕ) → q ≤ v.length → works q ≡ true → works least ≡ true
    works_least q l e =
        elim (dec_lt least v.length) [
          | yes h ↦ seek_at works 0 v.length (omega arith)
          | no h ↦
              let to = seek_to works 0 v.length in
              let z : least ≡ v.length = omega arith in
              elim (dec_lt q least) [
                | yes g ↦ absurd (true≢false (sym e ∙ seek_before works 0 v.length q (omega arith) g))
                | no g ↦ let y : q ≡ least = omega arith in ap works (sym y) ∙ e
              ]
        ]

    -- ---- the theorems of the proposer
    -- what is given is accepted
    pub proposed_accepted : (plan : List Range) → proposed hold most v ≡ Some plan → accepts_plan hold most plan v ≡ true
    unfolding proposed
    proposed_accepted plan e = go (works least) refl e
      where
        go : (b : Bool) → works least ≡ b → ◌≡◌ {A = Option (List Range)} (cond b (Some (unheld_below hold v least)) None) (Some plan) → accepts_plan hold most plan v ≡ true
        go true p r = let z : unheld_below hold v least ≡ plan = cc in ap (λ (xs : List Range). accepts_plan hold most xs v) (sym z) ∙ p
        go false p r = absurd (none_some plan r)

    -- it is the unheld ranges below a position, and below no earlier one are they accepted
    pub record TakesLeast (plan : List Range) : Type 0 where
      pub below : ℕ
      pub within : below ≤ v.length
      pub is : plan ≡ unheld_below hold v below
      pub refused : (q : ℕ) → q < below → works q ≡ false

    pub proposed_least : (plan : List Range) → proposed hold most v ≡ Some plan → TakesLeast plan
    unfolding proposed
    proposed_least plan e = go (works least) e
      where
        go : (b : Bool) → ◌≡◌ {A = Option (List Range)} (cond b (Some (unheld_below hold v least)) None) (Some plan) → TakesLeast plan
        go true r = record {
          below = least;
          within = least_within;
          is = let z : unheld_below hold v least ≡ plan = cc in sym z;
          refused = λ q h. seek_before works 0 v.length q (omega arith) h;
        }
        go false r = absurd (none_some plan r)

    -- ---- where the tank already holds so few, the empty plan, touched or not
    may_none : may_go hold [] v ≡ true
    unfolding may_go in_order free_of no_ranges
    may_none = go v.touched
      where
        go : (t : Bool) → cond t (leb 0 v.length && true) true ≡ true
        go true = ap (λ (b : Bool). b && true) (le-leb 0 v.length (omega arith))
        go false = refl

    pub empty_accepted : runs_held v ≤ most → accepts_plan hold most [] v ≡ true
    unfolding accepts_plan after_plan
    empty_accepted h = ap₂ (λ (x y : Bool). x && y) may_none (le-leb (runs_held v) most h)

    least_none : works 0 ≡ true → least ≡ 0
    least_none e = seek_is works 0 v.length 0 (omega arith) (omega arith) (λ p a b. absurd (omega arith)) (λ _. e)

    pub proposed_nothing : works 0 ≡ true → proposed hold most v ≡ Some []
    unfolding proposed
    proposed_nothing e =
        ap (λ (p : ℕ). cond (works p) (Some (unheld_below hold v p)) None) (least_none e)
        ∙ ap (λ (b : Bool). cond b (Some (unheld_below hold v 0)) None) e ∙ ap (λ (xs : List Range). Some xs) below_none

    pub proposed_empty : runs_held v ≤ most → proposed hold most v ≡ Some []
    proposed_empty h = proposed_nothing (ap (λ (xs : List Range). accepts_plan hold most xs v) below_none ∙ empty_accepted h)

    -- ---- no plan
    pub proposed_some : works least ≡ true → proposed hold most v ≡ Some (unheld_below hold v least)
    unfolding proposed
    proposed_some e = ap (λ (b : Bool). cond b (Some (unheld_below hold v least)) None) e

    pub proposed_no : works least ≡ false → proposed hold most v ≡ None
    unfolding proposed
    proposed_no e = ap (λ (b : Bool). cond b (Some (unheld_below hold v least)) None) e

    -- of a touched tank whose unheld positions form at most 32 ranges: none at all would be accepted
    pub proposed_none : v.touched ≡ true → range_count (unheld_at hold v) v.length ≤ 32 → proposed hold most v ≡ None
        → (plan : List Range) → accepts_plan hold most plan v ≡ false
    proposed_none t few e plan =
        is_false (accepts_plan hold most plan v)
        (λ y.
        let a = accepted_parts most plan t y in
        let left = a.left in
        let fewest = all_unheld_fewest t few plan a.order a.free in
        let whole : works v.length ≡ true =
        accepted_of most (unheld_below hold v v.length) t
        (record { few = below_few v.length; order = below_order v.length (omega arith); free = below_free v.length; left = omega arith }) in
        none_some (unheld_below hold v least) (sym e ∙ proposed_some (works_least v.length (omega arith) whole)))

    -- and the other way round, of any tank: where none would be accepted there is no plan
    pub none_proposed : ((plan : List Range) → accepts_plan hold most plan v ≡ false) → proposed hold most v ≡ None
    none_proposed h = proposed_no (h (unheld_below hold v least))

    -- ---- halving: between a position below which they are not accepted and one below which they are
    pub record Between (low high : ℕ) : Type 0 where
      pub some : low < high
      pub fits : high ≤ v.length
      pub refused : works low ≡ false
      pub accepted : works high ≡ true

    pub narrowed : v.touched ≡ true → (low high : ℕ) → Between low high → high ≤ low + 1 → high ≡ least
    narrowed t low high b h =
        let s = b.some in
        let f = b.fits in
        sym
        (seek_is works 0 v.length high (omega arith) (omega arith)
        (λ p _ g. is_false (works p) (λ e. true≢false (sym (works_later t p low (omega arith) (omega arith) e) ∙ b.refused)))
        (λ _. b.accepted))
