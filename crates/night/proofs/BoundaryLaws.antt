-- The least position below which the unheld ranges are accepted is a boundary of runs, or the length: a cut inside a run leaves as many
-- runs as one position earlier would, so no position inside a run is the least.
use Prim.Native.Nat.{ℕ, zero, suc, ◌+◌, ◌-◌, ◌≤◌, ◌<◌}
use mathlib.Core.Path.{◌≡◌, refl, sym, ap, ap₂, ◌∙◌}
use mathlib.Core.Bool.{Bool, true, false, cond, ◌&&◌, ◌||◌, and-eq-true_iff, true≢false, false≢true}
use mathlib.Core.List.{List, [], ◌∷◌, ◌++◌}
use native.Mathlib.Omega.{arith}
use native.Mathlib.Decide.{dec_lt}
use lib.Dec.{ltb, leb}
use borrow.Author.Tests.{leb-true, ltb-true}
use Rattle.styles.specs.declared.Mark.{Mark}
use Rattle.styles.specs.Order.{id_of, same_id, stands}
use Rattle.styles.specs.Marks.{same_marks}
use Rattle.styles.proofs.OrderLaws.{is_same_of, same_eq}
use Rattle.runs.specs.Positions.{within}
use Rattle.runs.proofs.SeekLaws.{seek_before}
use Rattle.tank.specs.Rules.{View, alike, runs_held}
use Rattle.tank.proofs.DeleteCount.{same_chain}
use Rattle.night.specs.Plans.{planned, kept_from, opens_on, changes, after_plan}
use Rattle.night.specs.Proposing.{unheld_at, ranges_from, unheld_below, works_below, least_below}
use Rattle.night.proofs.PlanLaws.{kept_ext, kept_split, plan_leaves, planned_from, planned_to, in_range, out_range}
use Rattle.night.proofs.RangeLaws.{ranges_by, ranges_order, ranges_grow, same_start, end_later, end_same, or_on, or_right}
use Rattle.night.proofs.ProposeLaws.{is_false, below_order, below_few, below_free, accepted_parts, accepted_of, works_touched}

-- ---- sameness of marks goes both ways
same_back : (xs ys : List Mark) → same_marks xs ys ≡ true → same_marks ys xs ≡ true
unfolding same_marks
same_back [] [] e = e
same_back [] (y ∷ ys) e = absurd (false≢true e)
same_back (x ∷ xs) [] e = absurd (false≢true e)
same_back (x ∷ xs) (y ∷ ys) e =
    let p = (and-eq-true_iff (same_id (id_of x) (id_of y)) (same_marks xs ys)).0 e in
    let i = same_eq (id_of x) (id_of y) (is_same_of (stands (id_of x) (id_of y)) p.0) in
    ap₂ (λ (a b : Bool). a && b) (ap (λ k. same_id k (id_of x)) (sym i) ∙ ap (λ k. same_id (id_of x) k) i ∙ p.0) (same_back xs ys p.1)

-- ---- one taken out in front of a same one that stays: no stretch fewer
module _ {A : Type 0} (same : A → A → Bool) (chain : (x y z : A) → same x y ≡ true → same y z ≡ true → same x z ≡ true)
    (back : (x y : A) → same x y ≡ true → same y x ≡ true) where
  opens_same : (zs : List A) (x y : A) → same x y ≡ true → opens_on same zs x ≤ opens_on same zs y
  unfolding opens_on
  opens_same [] x y e = omega arith
  opens_same (z ∷ zs) x y e = go (same z x) (same z y) (λ g. chain z y x g (back x y e))
    where
      go : (a b : Bool) → (b ≡ true → a ≡ true) → cond a 0 1 ≤ cond b 0 1
      go true b h = omega arith
      go false false h = omega arith
      go false true h = absurd (false≢true (h refl))

  joined : (zs : List A) (x y : A) → same x y ≡ true → changes same (y ∷ x ∷ zs) ≤ changes same (y ∷ zs)
  unfolding changes opens_on
  joined zs x y e = rw e (omega (arith, opens_same zs x y e))

  -- whatever stands behind it
  behind : (ls : List A) (y : A) (us ws : List A) → changes same (y ∷ us) ≤ changes same (y ∷ ws)
      → changes same (ls ++ (y ∷ us)) ≤ changes same (ls ++ (y ∷ ws))
  unfolding changes opens_on
  behind [] y us ws h = h
  behind (l ∷ []) y us ws h = omega (arith, h)
  behind (l ∷ k ∷ ls) y us ws h = omega (arith, behind (k ∷ ls) y us ws h)

  module _ (at : ℕ → A) (q : ℕ) where
    -- position q is kept or not, behind the positions before it
    kept_here : (gone : ℕ → Bool) (p : ℕ) (b : Bool) → gone p ≡ b → kept_from at gone 0 (suc p) ≡ cond b (kept_from at gone 0 p) (at p ∷ kept_from at gone 0 p)
    unfolding kept_from
    kept_here gone p b e = let z : 0 + p ≡ p = omega arith in rw (z, e) refl

    module _ (less more : ℕ → Bool) (e : same (at q) (at (suc q)) ≡ true) (keeps : less q ≡ false) (last : less (suc q) ≡ false) (last' : more (suc q) ≡ false)
        (first : (p : ℕ) → p < q → less p ≡ more p) (rest : (p : ℕ) → suc q ≤ p → less p ≡ more p) where
      abbrev before : List A
      before = kept_from at more 0 q

      abbrev top : ℕ → List A
      top j = kept_from at more (0 + suc (suc q)) j

      same_before : kept_from at less 0 q ≡ before
      same_before = kept_ext at at less more 0 0 q (λ j l. refl) (λ j l. first (0 + j) (omega arith))

      less_is : (j : ℕ) → kept_from at less 0 (suc (suc q) + j) ≡ top j ++ (at (suc q) ∷ at q ∷ before)
      less_is j =
          kept_split at less 0 (suc (suc q)) j
          ∙ ap₂ (λ (xs ys : List A). xs ++ ys)
          (kept_ext at at less more (0 + suc (suc q)) (0 + suc (suc q)) j (λ k l. refl) (λ k l. rest (0 + suc (suc q) + k) (omega arith)))
          (kept_here less (suc q) false last ∙ ap (λ (xs : List A). at (suc q) ∷ xs) (kept_here less q false keeps ∙ ap (λ (xs : List A). at q ∷ xs) same_before))

      more_is : (j : ℕ) (b : Bool) → more q ≡ b → kept_from at more 0 (suc (suc q) + j) ≡ top j ++ (at (suc q) ∷ cond b before (at q ∷ before))
      more_is j b g =
          kept_split at more 0 (suc (suc q)) j
          ∙ ap (λ (ys : List A). top j ++ ys) (kept_here more (suc q) false last' ∙ ap (λ (xs : List A). at (suc q) ∷ xs) (kept_here more q b g))

      kept_joined : (j : ℕ) (b : Bool) → more q ≡ b → changes same (kept_from at less 0 (suc (suc q) + j)) ≤ changes same (kept_from at more 0 (suc (suc q) + j))
      kept_joined j true g =
          omega (
            arith,
            ap (changes same) (less_is j),
            ap (changes same) (more_is j true g),
            behind (top j) (at (suc q)) (at q ∷ before) before (joined before (at q) (at (suc q)) e),
          )
      kept_joined j false g = omega (arith, ap (changes same) (less_is j ∙ sym (more_is j false g)))

-- ---- of fewer positions the ranges take what they took of them
module _ (test : ℕ → Bool) (n m : ℕ) (wider : n ≤ m) where
  ranges_shrink : (k from x : ℕ) → from ≤ n → x < n → planned (ranges_from k test m from) x ≡ true → planned (ranges_from k test n from) x ≡ true
  unfolding ranges_from planned
  ranges_shrink zero from x l h e = e
  ranges_shrink (suc k) from x l h e =
      ranges_by test m (λ ys. planned ys x ≡ true → planned (ranges_from (suc k) test n from) x ≡ true) k from (omega arith)
      (λ a' b' w e.
      ranges_by test n (λ xs. planned xs x ≡ true) k from l
      (λ a b r.
      let s = same_start test n m wider r w in
      let later = end_later test n m wider r w in
      let high = r.high in
      or_on (within a' b' x) (within a b x) (planned (ranges_from k test m b') x) (planned (ranges_from k test n b) x)
      (λ i.
      let c = (and-eq-true_iff (leb a' x) (ltb x b')).0 i in
      let low = leb-true a' x c.0 in
      let up = ltb-true x b' c.1 in
      elim (dec_lt b n) [
        | yes g ↦ in_range a b x (omega arith) (omega (arith, end_same test n m wider r w g))
        | no g ↦ in_range a b x (omega arith) (omega arith)
      ])
      (λ i.
      elim (dec_lt x b') [
        | yes g ↦ absurd (true≢false (sym i ∙ planned_from b' m (ranges_from k test m b') (ranges_order test m k b' w.high) x g))
        | no g ↦
            let z = end_same test n m wider r w (omega arith) in
            or_right (within a b x) _ (ranges_shrink k b x high h (ap (λ (p : ℕ). planned (ranges_from k test m p) x) z ∙ i))
      ])
      e)
      (λ g.
      let some = w.some in
      elim (dec_lt x a') [
        | yes u ↦
            absurd
            (true≢false
            (sym e
            ∙ ap₂ (λ (p q : Bool). p || q) (out_range a' b' x u)
            (planned_from b' m (ranges_from k test m b') (ranges_order test m k b' w.high) x (omega arith))))
        | no u ↦ absurd (true≢false (sym (w.inside a' (omega arith) some) ∙ g a' w.low (omega arith)))
      ]))
      (λ g e. absurd (false≢true e)) e

both : (a b : Bool) → (a ≡ true → b ≡ true) → (b ≡ true → a ≡ true) → a ≡ b
both true b f g = sym (f refl)
both false true f g = g refl
both false false f g = refl

-- ---- a cut one position later, inside a run, leaves no fewer runs
module _ (hold most : ℕ) (v : View) (touched : v.touched ≡ true) where
  abbrev taken : ℕ → ℕ → Bool
  taken q p = planned (unheld_below hold v q) p

  not_past : (q p : ℕ) → q ≤ p → taken q p ≡ false
  not_past q p h = planned_to 0 q (unheld_below hold v q) (ranges_order (unheld_at hold v) q 32 0 (omega arith)) p h

  taken_first : (q p : ℕ) → p < q → taken q p ≡ taken (suc q) p
  taken_first q p h =
      both (taken q p) (taken (suc q) p)
      (ranges_grow (unheld_at hold v) q (suc q) (omega arith) 32 0 p (omega arith))
      (ranges_shrink (unheld_at hold v) q (suc q) (omega arith) 32 0 p (omega arith) h)

  no_fewer : (q : ℕ) → suc q < v.length → alike v.at q ≡ true → runs_held (after_plan (unheld_below hold v q) v) ≤ runs_held (after_plan (unheld_below hold v (suc q)) v)
  no_fewer q l e =
      let n : suc (suc q) + (v.length - suc (suc q)) ≡ v.length = omega arith in
      let c =
      kept_joined same_marks same_chain same_back v.at q (taken q) (taken (suc q)) e (not_past q q (omega arith)) (not_past q (suc q) (omega arith))
      (not_past (suc q) (suc q) (omega arith)) (taken_first q)
      (λ p h. not_past q p (omega arith) ∙ sym (not_past (suc q) p h)) (v.length - suc (suc q)) (taken (suc q) q) refl in
      omega (
        arith,
        c,
        ap (λ (k : ℕ). changes same_marks (kept_from v.at (taken q) 0 k)) n,
        ap (λ (k : ℕ). changes same_marks (kept_from v.at (taken (suc q)) 0 k)) n,
        plan_leaves v touched (unheld_below hold v q) (below_order hold v q (omega arith)),
        plan_leaves v touched (unheld_below hold v (suc q)) (below_order hold v (suc q) (omega arith)),
      )

  works_earlier : (q : ℕ) → suc q < v.length → alike v.at q ≡ true → works_below hold most v (suc q) ≡ true → works_below hold most v q ≡ true
  works_earlier q l e w =
      let a = accepted_parts hold v most (unheld_below hold v (suc q)) touched w in
      let left = a.left in
      accepted_of hold v most (unheld_below hold v q) touched
      (record { few = below_few hold v q; order = below_order hold v q (omega arith); free = below_free hold v q; left = omega (arith, no_fewer q l e) })

-- so a run begins at the least position, where it is not the first or the length
pub least_boundary : (hold most : ℕ) (v : View) → works_below hold most v (least_below hold most v) ≡ true → 0 < least_below hold most v
    → least_below hold most v < v.length → alike v.at (least_below hold most v - 1) ≡ false
least_boundary hold most v w up l =
    let q = least_below hold most v - 1 in
    let s : suc q ≡ least_below hold most v = omega arith in
    let nothing : works_below hold most v 0 ≡ false = seek_before (works_below hold most v) 0 v.length 0 (omega arith) up in
    let touched = works_touched hold v most (least_below hold most v) nothing w in
    is_false (alike v.at q)
    (λ e.
    true≢false
    (sym (works_earlier hold most v touched q (omega arith) e (ap (works_below hold most v) s ∙ w))
    ∙ seek_before (works_below hold most v) 0 v.length q (omega arith) (omega arith)))
