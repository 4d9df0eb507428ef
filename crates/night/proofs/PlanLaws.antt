-- A plan in order leaves just the positions that are in none of its ranges: so a plan that takes more leaves no more runs.
use Prim.Native.Nat.{ℕ, zero, suc, ◌+◌, ◌-◌, ◌≤◌, ◌<◌}
use mathlib.Core.Path.{◌≡◌, refl, sym, ap, ap₂, ◌∙◌}
use mathlib.Core.Bool.{Bool, true, false, cond, and-eq-true_iff}
use mathlib.Core.List.{List, [], ◌∷◌, ◌++◌}
use native.Mathlib.Omega.{arith}
use native.Mathlib.Decide.{dec_le}
use lib.Dec.{ltb, leb}
use borrow.Author.Tests.{lt-ltb, le-ltb, le-leb, lt-leb, leb-true, ltb-true}
use Rattle.styles.specs.declared.Mark.{Mark}
use Rattle.styles.specs.Marks.{same_marks}
use Rattle.runs.specs.Positions.{sum_below, starts, stretch_count, within}
use Rattle.tank.specs.Rules.{View, alike, runs_held, after_delete}
use Rattle.night.specs.declared.Range.{Range}
use Rattle.night.specs.Plans.{planned, in_order, after_plan, kept_from, opens_on, changes}
use Rattle.tank.proofs.DeleteCount.{same_chain}
use Rattle.night.proofs.KeptLaws.{kept_fewer}

-- ---- what is left of positions
module _ {A : Type 0} where
  pub kept_ext : (at at' : ℕ → A) (gone gone' : ℕ → Bool) (from from' n : ℕ) → ((j : ℕ) → j < n → at (from + j) ≡ at' (from' + j))
      → ((j : ℕ) → j < n → gone (from + j) ≡ gone' (from' + j)) → kept_from at gone from n ≡ kept_from at' gone' from' n
  unfolding kept_from
  kept_ext at at' gone gone' from from' zero h g = refl
  kept_ext at at' gone gone' from from' (suc n) h g =
      rw (g n (omega arith), h n (omega arith), kept_ext at at' gone gone' from from' n (λ j l. h j (omega arith)) (λ j l. g j (omega arith)))

  module _ (at : ℕ → A) (gone : ℕ → Bool) where
    kept_none_lem : (from n : ℕ) → ((j : ℕ) → j < n → gone (from + j) ≡ true) → kept_from at gone from n ≡ []
    unfolding kept_from
    kept_none_lem from zero h = refl
    kept_none_lem from (suc n) h = simp (h n (omega arith)) (kept_none_lem from n (λ j l. h j (omega arith)))

    pub kept_split : (from i j : ℕ) → kept_from at gone from (i + j) ≡ kept_from at gone (from + i) j ++ kept_from at gone from i
    unfolding kept_from
    kept_split from i zero = let e : i + 0 ≡ i = omega arith in rw e
    kept_split from i (suc j) =
        let e : i + suc j ≡ suc (i + j) = omega arith in
        let g : from + (i + j) ≡ from + i + j = omega arith in
        rw (e, g, kept_split from i j) (go (gone (from + i + j)) (at (from + i + j)) (kept_from at gone (from + i) j) (kept_from at gone from i))
      where
        go : (b : Bool) (x : A) (xs ys : List A) → cond b (xs ++ ys) (x ∷ (xs ++ ys)) ≡ cond b xs (x ∷ xs) ++ ys
        go true x xs ys = refl
        go false x xs ys = refl

-- ---- a range, by where a position is
pub in_range : (a b p : ℕ) → a ≤ p → p < b → within a b p ≡ true
in_range a b p g h = simp (le-leb a p g, lt-ltb p b h)

pub out_range : (a b p : ℕ) → p < a → within a b p ≡ false
out_range a b p h = simp (lt-leb a p h)

pub past_range : (a b p : ℕ) → b ≤ p → within a b p ≡ false
past_range a b p h = elim (dec_le a p) [ yes g ↦ simp (le-leb a p g, le-ltb p b h) | no g ↦ out_range a b p (omega arith) ]

-- ---- ranges in order
pub record Ordered (from n : ℕ) (x : Range) (xs : List Range) : Type 0 where
  pub begins : from ≤ x.start
  pub some : x.start < x.end
  pub rest : in_order x.end n xs ≡ true

pub ordered : (from n : ℕ) (x : Range) (xs : List Range) → in_order from n (x ∷ xs) ≡ true → Ordered from n x xs
unfolding in_order
ordered from n x xs e =
    let a = (and-eq-true_iff (leb from x.start) _).0 e in
    let b = (and-eq-true_iff (ltb x.start x.end) _).0 a.1 in
    record { begins = leb-true from x.start a.0; some = ltb-true x.start x.end b.0; rest = b.1 }

pub order_to : (from n : ℕ) (xs : List Range) → in_order from n xs ≡ true → from ≤ n
unfolding in_order
order_to from n [] e = leb-true from n e
order_to from n (x ∷ xs) e =
    let o = ordered from n x xs e in
    let a = o.begins in
    let b = o.some in
    omega (arith, order_to x.end n xs o.rest)

-- nothing before the first is planned
pub planned_from : (from n : ℕ) (xs : List Range) → in_order from n xs ≡ true → (p : ℕ) → p < from → planned xs p ≡ false
unfolding planned
planned_from from n [] e p h = refl
planned_from from n (x ∷ xs) e p h =
    let o = ordered from n x xs e in
    let a = o.begins in
    let b = o.some in
    rw (out_range x.start x.end p (omega arith), planned_from x.end n xs o.rest p (omega arith))

-- nor past the end
pub planned_to : (from n : ℕ) (xs : List Range) → in_order from n xs ≡ true → (p : ℕ) → n ≤ p → planned xs p ≡ false
unfolding planned
planned_to from n [] e p h = refl
planned_to from n (x ∷ xs) e p h =
    let o = ordered from n x xs e in
    rw (past_range x.start x.end p (omega (arith, order_to x.end n xs o.rest)), planned_to x.end n xs o.rest p h)

-- ---- what a plan leaves
none_gone : ℕ → Bool
none_gone p = false

record Left (from : ℕ) (xs : List Range) (v : View) : Type 0 where
  touched : (after_plan xs v).touched ≡ true
  reaches : from ≤ (after_plan xs v).length
  before : (p : ℕ) → p < from → (after_plan xs v).at p ≡ v.at p
  behind : kept_from (after_plan xs v).at none_gone from ((after_plan xs v).length - from) ≡ kept_from v.at (planned xs) from (v.length - from)

module _ (v : View) (x : Range) (xs : List Range) (from : ℕ) (o : Ordered from v.length x xs) (r : Left x.end xs v) where
  abbrev w : View
  w = after_plan xs v

  abbrev u : View
  u = record { length = w.length - (x.end - x.start); touched = true; at = λ p. cond (ltb p x.start) (w.at p) (w.at (p + (x.end - x.start))) }

  is_u : after_plan (x ∷ xs) v ≡ u
  unfolding after_plan after_delete
  is_u = simp r.touched

  u_before : (p : ℕ) → p < x.start → u.at p ≡ v.at p
  u_before p h = let a = o.some in rw (lt-ltb p x.start h) (r.before p (omega arith))

  u_behind : (j : ℕ) → u.at (x.start + j) ≡ w.at (x.end + j)
  u_behind j =
      let a = o.some in
      let e : x.start + j + (x.end - x.start) ≡ x.end + j = omega arith in
      rw (le-ltb (x.start + j) x.start (omega arith)) (ap w.at e)

  new_kept : kept_from u.at none_gone from (u.length - from) ≡ kept_from w.at none_gone x.end (w.length - x.end) ++ kept_from v.at none_gone from (x.start - from)
  unfolding none_gone
  new_kept =
      let a = o.begins in
      let b = o.some in
      let c = r.reaches in
      let e : u.length - from ≡ x.start - from + (w.length - x.end) = omega arith in
      let g : from + (x.start - from) ≡ x.start = omega arith in
      ap (kept_from u.at none_gone from) e
      ∙ kept_split u.at none_gone from (x.start - from) (w.length - x.end)
      ∙ ap₂ (λ (xs ys : List (List Mark)). xs ++ ys)
      (ap (λ (k : ℕ). kept_from u.at none_gone k (w.length - x.end)) g
      ∙ kept_ext u.at w.at none_gone none_gone x.start x.end (w.length - x.end) (λ j l. u_behind j) (λ j l. refl))
      (kept_ext u.at v.at none_gone none_gone from from (x.start - from) (λ j l. u_before (from + j) (omega arith)) (λ j l. refl))

  old_kept : kept_from v.at (planned (x ∷ xs)) from (v.length - from) ≡ kept_from v.at (planned xs) x.end (v.length - x.end) ++ kept_from v.at none_gone from (x.start - from)
  unfolding none_gone planned
  old_kept =
      let a = o.begins in
      let b = o.some in
      let c = order_to x.end v.length xs o.rest in
      let e : v.length - from ≡ x.start - from + (x.end - x.start) + (v.length - x.end) = omega arith in
      let g : from + (x.start - from + (x.end - x.start)) ≡ x.end = omega arith in
      let k : from + (x.start - from) ≡ x.start = omega arith in
      ap (kept_from v.at (planned (x ∷ xs)) from) e
      ∙ kept_split v.at (planned (x ∷ xs)) from (x.start - from + (x.end - x.start)) (v.length - x.end)
      ∙ ap₂ (λ (xs ys : List (List Mark)). xs ++ ys)
      (ap (λ (k : ℕ). kept_from v.at (planned (x ∷ xs)) k (v.length - x.end)) g
      ∙ kept_ext v.at v.at (planned (x ∷ xs)) (planned xs) x.end x.end (v.length - x.end) (λ j l. refl) (λ j l. rw (past_range x.start x.end (x.end + j) (omega arith))))
      (kept_split v.at (planned (x ∷ xs)) from (x.start - from) (x.end - x.start)
      ∙ ap₂ (λ (xs ys : List (List Mark)). xs ++ ys)
      (ap (λ (k : ℕ). kept_from v.at (planned (x ∷ xs)) k (x.end - x.start)) k
      ∙ kept_none_lem v.at (planned (x ∷ xs)) x.start (x.end - x.start) (λ j l. rw (in_range x.start x.end (x.start + j) (omega arith) (omega arith))))
      (kept_ext v.at v.at (planned (x ∷ xs)) none_gone from from (x.start - from) (λ j l. refl)
      (λ j l. rw (out_range x.start x.end (from + j) (omega arith), planned_from x.end v.length xs o.rest (from + j) (omega arith)))))

  left_more : Left from (x ∷ xs) v
  left_more =
      let a = o.begins in
      let b = o.some in
      let c = r.reaches in
      record {
        touched = rw is_u refl;
        reaches = rw is_u (omega arith);
        before = λ p h. rw is_u (u_before p (omega arith));
        behind = rw is_u (new_kept ∙ ap (λ (ys : List (List Mark)). ys ++ kept_from v.at none_gone from (x.start - from)) r.behind ∙ sym old_kept);
      }

none_left : (v : View) → v.touched ≡ true → (from : ℕ) → from ≤ v.length → Left from [] v
unfolding after_plan none_gone planned
none_left v t from h =
    record {
      touched = is_touched;
      reaches = reaching;
      before = same;
      behind = kept;
    }
  where
    is_touched : (after_plan [] v).touched ≡ true
    is_touched = t

    reaching : from ≤ (after_plan [] v).length
    reaching = h

    same : (p : ℕ) → p < from → (after_plan [] v).at p ≡ v.at p
    same p h = refl

    kept : kept_from (after_plan [] v).at none_gone from ((after_plan [] v).length - from) ≡ kept_from v.at (planned []) from (v.length - from)
    kept = kept_ext v.at v.at none_gone (planned []) from from (v.length - from) (λ j l. refl) (λ j l. refl)

left_all : (v : View) → v.touched ≡ true → (xs : List Range) (from : ℕ) → in_order from v.length xs ≡ true → Left from xs v
left_all v t [] from e = none_left v t from (order_to from v.length [] e)
left_all v t (x ∷ xs) from e = let o = ordered from v.length x xs e in left_more v x xs from o (left_all v t xs x.end o.rest)

-- ranges in order from a position on leave all before it
pub plan_reaches : (v : View) → v.touched ≡ true → (xs : List Range) (from : ℕ) → in_order from v.length xs ≡ true → from ≤ (after_plan xs v).length
plan_reaches v t xs from e = (left_all v t xs from e).reaches

-- ---- runs held, by the list of the positions
held_changes : (at : ℕ → List Mark) (n : ℕ) → stretch_count (alike at) n ≡ changes same_marks (kept_from at none_gone 0 n)
unfolding sum_below starts changes opens_on kept_from none_gone
held_changes at zero = refl
held_changes at (suc zero) = refl
held_changes at (suc (suc n)) =
    let z : 0 + n ≡ n = omega arith in
    let y : 0 + suc n ≡ suc n = omega arith in
    let e : starts (alike at) (suc n) ≡ opens_on same_marks (kept_from at none_gone 0 (suc n)) (at (0 + suc n)) = rw (y, z) refl in
    omega (arith, held_changes at (suc n), e)

-- ---- a plan leaves the positions that are in none of its ranges
pub plan_leaves : (v : View) → v.touched ≡ true → (xs : List Range) → in_order 0 v.length xs ≡ true
    → runs_held (after_plan xs v) ≡ changes same_marks (kept_from v.at (planned xs) 0 v.length)
plan_leaves v t xs e =
    let l = left_all v t xs 0 e in
    let a : (after_plan xs v).length ≡ (after_plan xs v).length - 0 = omega arith in
    let b : v.length - 0 ≡ v.length = omega arith in
    held_changes (after_plan xs v).at (after_plan xs v).length
    ∙ ap (changes same_marks)
    (ap (kept_from (after_plan xs v).at none_gone 0) a ∙ l.behind ∙ ap (kept_from v.at (planned xs) 0) b)

-- one that takes more leaves no more runs
pub plan_fewer : (v : View) → v.touched ≡ true → (xs ys : List Range) → in_order 0 v.length xs ≡ true → in_order 0 v.length ys ≡ true
    → ((p : ℕ) → planned xs p ≡ true → planned ys p ≡ true) → runs_held (after_plan ys v) ≤ runs_held (after_plan xs v)
plan_fewer v t xs ys e g h =
    omega (arith, plan_leaves v t xs e, plan_leaves v t ys g, kept_fewer same_marks same_chain v.at (planned xs) (planned ys) 0 h v.length)
