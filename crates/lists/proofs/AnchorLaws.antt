-- The anchors by position are those at the boundaries of runs, by bits.
use Prim.Native.Nat.{ℕ, zero, suc, ◌+◌, ◌-◌, ◌*◌, ◌/◌, ◌%◌, ◌≤◌, ◌<◌, ◌^◌, min}
use mathlib.Core.Path.{◌≡◌, refl, sym, ap, ap₂, ◌∙◌, subst}
use mathlib.Core.Bool.{Bool, not}
use mathlib.Core.List.{List, [], ◌++◌, append_assoc, append-nil}
use native.Mathlib.Omega.{arith}
use native.Mathlib.Decide.{dec_lt}
use native.Mathlib.Numerals.{add-one}
use lib.Bits.{and_step, and_le_l, and_comm, and_self}
use lib.ListN.{get_or}
use borrow.Author.Tests.{lt-ltb, le-ltb}
use Rattle.styles.specs.declared.Mark.{Mark}
use Rattle.styles.specs.Order.{id_of}
use Rattle.styles.specs.Marks.{Above, Sorted, member, only}
use Rattle.styles.specs.Bits.{keep_bit, pick, lacking_bits}
use Rattle.styles.proofs.OrderLaws.{same_self}
use Rattle.styles.proofs.PickLaws.{not_member, only_skip, pick_op}
use Rattle.styles.proofs.UnionLaws.{pick_none}
use Rattle.runs.specs.Runs.{Run, runs, total, set_at, Other, Canon, Spare}
use Rattle.runs.proofs.Laws.{at_past, total_more, total_mono}
use Rattle.runs.proofs.ScanLaws.{at_run}
use Rattle.tank.specs.declared.Tank.{Tank}
use Rattle.lists.specs.declared.anchors.Anchor.{Anchor}
use Rattle.tank.specs.Rules.{View}
use Rattle.tank.specs.State.{runs_of, table_of, view_of, view, Laid}
use Rattle.tank.proofs.Counted.{at_inside}
use Rattle.lists.specs.Anchors.{lacking, marks_before, marks_behind, anchors_of, boundary, boundaries, anchors, between}

-- ---- the marks that another set lacks, by bits
lacking_keep : (b c d : ℕ) (m : Mark) (xs ys : List Mark) → b < 2 → c < 2 → d ≡ b - min b c → Above (id_of m) xs → Above (id_of m) ys
    → keep_bit d m (lacking xs ys) ≡ lacking (keep_bit b m xs) (keep_bit c m ys)
unfolding only member
lacking_keep zero zero d m xs ys p q e h k = let z : d ≡ 0 = omega arith in rw z
lacking_keep zero (suc c) d m xs ys p q e h k = let z : d ≡ 0 = omega arith in rw z (sym (only_skip not m xs ys h))
lacking_keep (suc b) zero d m xs ys p q e h k = let z : d ≡ 1 = omega arith in rw (z, not_member (id_of m) ys k)
lacking_keep (suc b) (suc c) d m xs ys p q e h k = let z : d ≡ 0 = omega arith in rw (z, same_self (id_of m)) (sym (only_skip not m xs ys h))

pub lack_step : (s u : ℕ) → lacking_bits s u ≡ lacking_bits (s / 2) (u / 2) * 2 + (s % 2 - min (s % 2) (u % 2))
lack_step s u = omega (arith, and_step s u, and_le_l (s / 2) (u / 2))

pub pick_lacking : (t : List Mark) (s u : ℕ) → Sorted t → pick t (lacking_bits s u) ≡ lacking (pick t s) (pick t u)
unfolding only
pick_lacking =
    pick_op lacking_bits (λ b c. b - min b c) lacking lack_step (λ s u. omega arith) refl
    (λ s u m xs ys h k. lacking_keep (s % 2) (u % 2) (s % 2 - min (s % 2) (u % 2)) m xs ys (omega arith) (omega arith) refl h k)

-- neither lacks a bit of the other: they are one
pub lack_none : (s u : ℕ) → lacking_bits s u ≡ 0 → lacking_bits u s ≡ 0 → s ≡ u
lack_none s u a b = omega (arith, and_comm s u, and_le_l s u, and_le_l u s)

pub lack_self : (s : ℕ) → lacking_bits s s ≡ 0
lack_self s = omega (arith, and_self s)

-- ---- boundaries, and those behind them
split : (p j n : ℕ) (v : View) → boundaries p (j + n) v ≡ boundaries p j v ++ boundaries (p + j) n v
unfolding boundaries
split p zero n v = let e : p + 0 ≡ p = omega arith in let g : 0 + n ≡ n = omega arith in rw (e, g)
split p (suc j) n v =
    let e : p + suc j ≡ suc p + j = omega arith in
    let g : suc j + n ≡ suc (j + n) = omega arith in
    rw (e, g)
    (ap (λ (l : List Anchor). boundary p v ++ l) (split (suc p) j n v)
    ∙ sym (append_assoc (boundary p v) (boundaries (suc p) j v) (boundaries (suc p + j) n v)))

split_first : (j n : ℕ) (v : View) → boundaries 0 (j + n) v ≡ boundaries 0 j v ++ boundaries j n v
split_first j n v = let e : 0 + j ≡ j = omega arith in split 0 j n v ∙ ap (λ p. boundaries 0 j v ++ boundaries p n v) e

-- ---- a boundary by bits
-- the bits before a boundary, where each position has some
abbrev pub bits_before : (ℕ → ℕ) → ℕ → ℕ
bits_before bits zero = 0
bits_before bits (suc p) = bits p

-- of runs, the set before it
abbrev pub set_before : List Run → ℕ → ℕ
set_before rs = bits_before (set_at rs)

pub between_same : (ms : List Mark) (p x : ℕ) → between ms p x x ≡ []
unfolding anchors_of
between_same ms p x = rw (lack_self x, pick_none ms)

-- a view whose positions carry the marks of their bits
pub record ByBits (ms : List Mark) (bits : ℕ → ℕ) (v : View) : Type 0 where
  pub sorted : Sorted ms
  pub carried : (p : ℕ) → v.at p ≡ pick ms (bits p)
  pub none_past : (p : ℕ) → v.length ≤ p → bits p ≡ 0

module _ {ms : List Mark} {bits : ℕ → ℕ} {v : View} (by : ByBits ms bits v) where
  before_is : (p : ℕ) → marks_before p v ≡ pick ms (bits_before bits p)
  unfolding marks_before
  before_is zero = sym (pick_none ms)
  before_is (suc p) = by.carried p

  behind_is : (p : ℕ) → marks_behind p v ≡ pick ms (bits p)
  unfolding marks_behind
  behind_is p =
      elim (dec_lt p v.length) [
        | yes h ↦ rw (lt-ltb p v.length h) (by.carried p)
        | no h ↦ rw (le-ltb p v.length (omega arith)) (sym (ap (pick ms) (by.none_past p (omega arith)) ∙ pick_none ms))
      ]

  pub boundary_on : (p : ℕ) → boundary p v ≡ between ms p (bits_before bits p) (bits p)
  unfolding boundary
  boundary_on p =
      let x = bits_before bits p in
      let y = bits p in
      rw (before_is p, behind_is p, pick_lacking ms x y by.sorted, pick_lacking ms y x by.sorted)

  -- where one set goes on no boundary has an anchor
  pub flat : (p n s : ℕ) → ((q : ℕ) → p ≤ q → q ≤ p + n → bits q ≡ s) → boundaries (suc p) n v ≡ []
  unfolding boundaries
  flat p zero s h = refl
  flat p (suc n) s h =
      ap₂ (λ (xs ys : List Anchor). xs ++ ys)
      (boundary_on (suc p) ∙ ap₂ (between ms (suc p)) (h p (omega arith) (omega arith)) (h (suc p) (omega arith) (omega arith)) ∙ between_same ms (suc p) s)
      (flat (suc p) n s (λ q a b. h q (omega arith) (omega arith)))

  -- so positions with one set have the anchors of the boundary that they begin at
  run_on : (p n s : ℕ) → 0 < n → ((q : ℕ) → p ≤ q → q < p + n → bits q ≡ s) → boundaries p n v ≡ between ms p (bits_before bits p) s
  unfolding boundaries
  run_on p n s some h =
      let e : n ≡ suc (n - 1) = omega arith in
      ap (λ k. boundaries p k v) e
      ∙ ap₂ (λ (xs ys : List Anchor). xs ++ ys)
      (boundary_on p ∙ ap (between ms p (bits_before bits p)) (h p (omega arith) (omega arith)))
      (flat p (n - 1) s (λ q a b. h q a (omega arith)))
      ∙ append-nil _

  -- behind those before them
  pub run_more : (p n s : ℕ) → 0 < n → ((q : ℕ) → p ≤ q → q < p + n → bits q ≡ s) → boundaries 0 (p + n) v ≡ boundaries 0 p v ++ between ms p (bits_before bits p) s
  run_more p n s some h = split_first p n v ∙ ap (λ (xs : List Anchor). boundaries 0 p v ++ xs) (run_on p n s some h)

  -- and the bits before the next boundary are theirs
  pub run_before : (p n s : ℕ) → 0 < n → ((q : ℕ) → p ≤ q → q < p + n → bits q ≡ s) → s ≡ bits_before bits (p + n)
  run_before p n s some h = let e : p + n ≡ suc (p + n - 1) = omega arith in rw e (sym (h (p + n - 1) (omega arith) (omega arith)))

  -- what the last of them carry ends behind them
  pub anchors_end : (l : ℕ) → l ≡ v.length → anchors v ≡ boundaries 0 l v ++ between ms l (bits_before bits l) 0
  unfolding anchors boundaries
  anchors_end l is =
      let e : suc v.length ≡ l + 1 = omega arith in
      ap (λ n. boundaries 0 n v) e ∙ split_first l 1 v
      ∙ ap (λ (xs : List Anchor). boundaries 0 l v ++ xs)
      (append-nil _ ∙ boundary_on l ∙ ap (between ms l (bits_before bits l)) (by.none_past l (omega arith)))

-- runs over a table, of whatever length they sum to
pub runs_by : (touched : Bool) (l : ℕ) (ms : List Mark) (rs : List Run) → Sorted ms → l ≡ total rs → ByBits ms (set_at rs) (view_of touched l ms rs)
runs_by touched l ms rs sorted sum = record { sorted = sorted; carried = λ p. refl; none_past = λ p h. at_past rs p (omega (arith, sum)) }

laid_by : {t : Tank} → Laid t → ByBits (table_of t) (set_at (runs_of t)) (view t)
unfolding view
laid_by {t} f = runs_by t.touched t.length (table_of t) (runs_of t) f.sorted f.sum

pub boundary_is : {t : Tank} → Laid t → (p : ℕ) → boundary p (view t) ≡ between (table_of t) p (set_before (runs_of t) p) (set_at (runs_of t) p)
boundary_is f p = boundary_on (laid_by f) p

-- ---- runs in joined form
module _ (lens sets : List ℕ) where
  canon_first : (n k : ℕ) → Canon (runs lens sets n) → k ≤ n → Canon (runs lens sets k)
  unfolding Canon runs
  canon_first zero k c h = let e : k ≡ 0 = omega arith in rw e c
  canon_first (suc n) k c h =
      elim (dec_lt n k) [ yes g ↦ (let e : k ≡ suc n = omega arith in rw e c) | no g ↦ canon_first n k c.2 (omega arith) ]

  pub canon_some : (n k : ℕ) → Canon (runs lens sets n) → k < n → 0 < get_or lens k 0
  unfolding Canon runs
  canon_some n k c h = (canon_first n (suc k) c h).0

  pub canon_next : (n k : ℕ) → Canon (runs lens sets n) → suc k < n → get_or sets k 0 ≡ get_or sets (suc k) 0 → ⊥
  unfolding Canon runs Other
  canon_next n k c h = (canon_first n (suc (suc k)) c h).1

before_some : (rs : List Run) (p : ℕ) → 0 < p → set_before rs p ≡ set_at rs (p - 1)
before_some rs zero h = absurd (omega arith)
before_some rs (suc p) h = let e : suc p - 1 ≡ p = omega arith in rw e

-- ---- the boundary before run k, which may be the one behind the last run
module _ {t : Tank} (f : Laid t) (k p : ℕ) (in-runs : k ≤ t.runs) (at_is : p ≡ total (runs t.lens t.sets k)) where
  pub set_from : set_at (runs_of t) p ≡ get_or t.sets k 0
  unfolding Spare
  set_from =
      elim (dec_lt k t.runs) [
        | yes h ↦
            at_run t.lens t.sets t.runs k p h (omega arith) (omega (arith, canon_some t.lens t.sets t.runs k f.canon h))
        | no h ↦
            let e : k ≡ t.runs = omega arith in
            at_past (runs_of t) p (rw (← e) (omega arith)) ∙ sym (f.spare k (omega arith)).1
      ]

  pub set_in_lem : get_or t.sets k 0 < 2 ^ t.marks
  set_in_lem = subst (λ s. s < 2 ^ t.marks) set_from (at_inside (runs_of t) t.marks p f.inside)

-- ---- from one run's boundary to the next
module _ {t : Tank} (f : Laid t) (k p : ℕ) (in-runs : k < t.runs) (at_is : p ≡ total (runs t.lens t.sets k)) where
  pub run_some : 0 < get_or t.lens k 0
  run_some = canon_some t.lens t.sets t.runs k f.canon in-runs

  pub next_at : p + get_or t.lens k 0 ≡ total (runs t.lens t.sets (k + 1))
  next_at = omega (arith, total_more t.lens t.sets k)

  -- the run ends within the tank
  pub run_fits : p + get_or t.lens k 0 ≤ t.length
  run_fits = omega (arith, f.sum, next_at, total_mono t.lens t.sets (k + 1) t.runs (omega arith))

  here : (q : ℕ) → p ≤ q → q < p + get_or t.lens k 0 → set_at (runs_of t) q ≡ get_or t.sets k 0
  here q a b = at_run t.lens t.sets t.runs k q in-runs (omega arith) (omega arith)

  at_next : boundary (p + get_or t.lens k 0) (view t) ≡ between (table_of t) (p + get_or t.lens k 0) (get_or t.sets k 0) (get_or t.sets (k + 1) 0)
  at_next =
      let q = p + get_or t.lens k 0 in
      boundary_is f q
      ∙ ap₂ (between (table_of t) q) (before_some (runs_of t) q (omega (arith, run_some)) ∙ here (q - 1) (omega (arith, run_some)) (omega (arith, run_some)))
      (set_from f (k + 1) q (omega arith) next_at)

  -- what comes behind this boundary: what the next one has, and what comes behind that
  pub to_next : boundaries (suc p) (t.length - p) (view t)
      ≡ between (table_of t) (p + get_or t.lens k 0) (get_or t.sets k 0) (get_or t.sets (k + 1) 0)
      ++ boundaries (suc (p + get_or t.lens k 0)) (t.length - (p + get_or t.lens k 0)) (view t)
  unfolding boundaries view
  to_next =
      let l = get_or t.lens k 0 in
      let e : t.length - p ≡ l - 1 + suc (t.length - (p + l)) = omega (arith, run_some, run_fits) in
      let g : suc p + (l - 1) ≡ p + l = omega (arith, run_some) in
      ap (λ n. boundaries (suc p) n (view t)) e
      ∙ split (suc p) (l - 1) (suc (t.length - (p + l))) (view t)
      ∙ ap₂ (λ (xs : List Anchor) q. xs ++ boundaries q (suc (t.length - (p + l))) (view t))
      (flat (laid_by f) p (l - 1) _ (λ q a b. here q a (omega (arith, run_some)))) g
      ∙ ap (λ (l' : List Anchor). l' ++ boundaries (suc (p + l)) (t.length - (p + l)) (view t)) at_next

  -- where a run begins at the next boundary, it has an anchor
  pub differs : k + 1 < t.runs → lacking_bits (get_or t.sets k 0) (get_or t.sets (k + 1) 0) ≡ 0
      → lacking_bits (get_or t.sets (k + 1) 0) (get_or t.sets k 0) ≡ 0 → ⊥
  differs h a b =
      canon_next t.lens t.sets t.runs k f.canon (omega arith)
      (lack_none (get_or t.sets k 0) (get_or t.sets (k + 1) 0) a b ∙ ap (λ i. get_or t.sets i 0) (add-one k))

-- before the first position: the first run's marks start
pub at_first : {t : Tank} → Laid t → boundary 0 (view t) ≡ between (table_of t) 0 0 (get_or t.sets 0 0)
unfolding runs total
at_first {t} f = boundary_is f 0 ∙ ap (between (table_of t) 0 0) (set_from f 0 0 (omega arith) refl)
