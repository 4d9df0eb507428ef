-- A deletion leaves no more runs than there were: counted from the positions of any tank, whatever stores it.
use Prim.Native.Nat.{ℕ, zero, suc, ◌+◌, ◌-◌, ◌≤◌, ◌<◌}
use mathlib.Core.Path.{◌≡◌, refl, sym, ap, ap₂, ◌∙◌}
use mathlib.Core.Bool.{Bool, true, false, cond, false≢true, and-eq-true_iff}
use mathlib.Core.List.{List, [], ◌∷◌}
use native.Mathlib.Omega.{arith}
use native.Mathlib.Decide.{ℕ_discrete}
use lib.Dec.{ltb}
use borrow.Author.Tests.{lt-ltb, le-ltb}
use Rattle.laws.proofs.Cases.{cond_by}
use Rattle.styles.specs.declared.Mark.{Mark}
use Rattle.styles.specs.Order.{id_of, same_id, stands}
use Rattle.styles.specs.declared.Stand.TheVariants.{Same}
use Rattle.styles.specs.Marks.{same_marks}
use Rattle.styles.proofs.OrderLaws.{is_same_of, same_eq}
use Rattle.styles.proofs.SameLaws.{same_marks_self}
use Rattle.runs.specs.Positions.{sum_below, starts, stretch_count}
use Rattle.runs.proofs.SumLaws.{sum_up}
use Rattle.runs.proofs.StretchLaws.{stretch_count_ext}
use Rattle.tank.specs.Rules.{View, after_delete, alike, runs_held}

-- ---- sameness of sets passes along a chain
pub same_chain : (xs ys zs : List Mark) → same_marks xs ys ≡ true → same_marks ys zs ≡ true → same_marks xs zs ≡ true
unfolding same_marks
same_chain [] [] zs e f = f
same_chain [] (y ∷ ys) zs e f = absurd (false≢true e)
same_chain (x ∷ xs) [] zs e f = absurd (false≢true e)
same_chain (x ∷ xs) (y ∷ ys) [] e f = f
same_chain (x ∷ xs) (y ∷ ys) (z ∷ zs) e f =
    let p = (and-eq-true_iff (same_id (id_of x) (id_of y)) (same_marks xs ys)).0 e in
    let q = (and-eq-true_iff (same_id (id_of y) (id_of z)) (same_marks ys zs)).0 f in
    let i = same_eq (id_of x) (id_of y) (is_same_of (stands (id_of x) (id_of y)) p.0) in
    let s : stands (id_of x) (id_of z) ≡ Same = ap (λ k. stands k (id_of z)) i ∙ is_same_of (stands (id_of y) (id_of z)) q.0 in
    rw s (same_chain xs ys zs p.1 q.1)

-- ---- starts among more positions
more_starts : (f : ℕ → Bool) (n j : ℕ) → stretch_count f n ≤ stretch_count f (n + j)
more_starts f n j = sum_up (starts f) n (n + j) (omega arith)

no_start : (b : Bool) → ◌≡◌ {A = ℕ} (cond b 0 1) 0 → b ≡ true
no_start true e = refl
no_start false e = absurd (omega arith)

starts_one : (f : ℕ → Bool) (n : ℕ) → starts f n ≤ 1
unfolding starts
starts_one f zero = omega arith
starts_one f (suc n) = cond_by (λ (x : ℕ). x ≤ 1) (f n) (omega arith) (omega arith)

-- where no stretch starts behind position a, up to a + j, those two have one set
along : (at : ℕ → List Mark) (a j : ℕ) → stretch_count (alike at) (suc a + j) ≡ stretch_count (alike at) (suc a) → same_marks (at a) (at (a + j)) ≡ true
unfolding sum_below starts
along at a zero e = let z : a + 0 ≡ a = omega arith in rw z (same_marks_self (at a))
along at a (suc j) e =
    let g : suc a + suc j ≡ suc (suc (a + j)) = omega arith in
    let k : suc a + j ≡ suc (a + j) = omega arith in
    let up = more_starts (alike at) (suc a) j in
    let e' : stretch_count (alike at) (suc (suc (a + j))) ≡ stretch_count (alike at) (suc a) = ap (stretch_count (alike at)) (sym g) ∙ e in
    let k' : stretch_count (alike at) (suc a + j) ≡ stretch_count (alike at) (suc (a + j)) = ap (stretch_count (alike at)) k in
    let last = no_start (alike at (a + j)) (omega arith) in
    let rest = along at a j (omega arith) in
    let z : a + suc j ≡ suc (a + j) = omega arith in
    rw z (same_chain (at a) (at (a + j)) (at (suc (a + j))) rest last)

-- ---- d positions cut out at a
module _ (at : ℕ → List Mark) (a d : ℕ) where
  abbrev cut : ℕ → List Mark
  cut p = cond (ltb p a) (at p) (at (p + d))

  cut_before : (p : ℕ) → p < a → cut p ≡ at p
  cut_before p h = rw (lt-ltb p a h)

  cut_from : (p : ℕ) → a ≤ p → cut p ≡ at (p + d)
  cut_from p h = rw (le-ltb p a h)

  -- what stands before the cut has the starts it had
  starts_before : stretch_count (alike cut) a ≡ stretch_count (alike at) a
  starts_before = stretch_count_ext (alike cut) (alike at) a (λ p h. ap₂ same_marks (cut_before p (omega arith)) (cut_before (suc p) h))

  -- behind the cut a position starts a stretch exactly where it did
  starts_behind : (k : ℕ) → starts (alike cut) (a + suc k) ≡ starts (alike at) (a + d + suc k)
  unfolding starts
  starts_behind k =
      let e : a + suc k ≡ suc (a + k) = omega arith in
      let g : a + d + suc k ≡ suc (a + d + k) = omega arith in
      let i : a + k + d ≡ a + d + k = omega arith in
      let j : suc (a + k) + d ≡ suc (a + d + k) = omega arith in
      let s : alike cut (a + k) ≡ alike at (a + d + k) =
      ap₂ same_marks (cut_from (a + k) (omega arith) ∙ ap at i) (cut_from (suc (a + k)) (omega arith) ∙ ap at j) in
      rw (e, g, s)

-- the first position behind the cut starts a stretch only where it did or one of those cut out
cut_meets : (at : ℕ → List Mark) (a d : ℕ) → stretch_count (alike (cut at a d)) a + starts (alike (cut at a d)) a ≤ stretch_count (alike at) (a + d + 1)
unfolding starts sum_below
cut_meets at zero d = let e : 0 + d + 1 ≡ 1 + d = omega arith in rw e (more_starts (alike at) 1 d)
cut_meets at (suc a) d =
    let same = starts_before at (suc a) d in
    let up = more_starts (alike at) (suc a) (d + 1) in
    let one = starts_one (alike (cut at (suc a) d)) (suc a) in
    let e : suc a + (d + 1) ≡ suc a + d + 1 = omega arith in
    rw (← e)
    (elim (ℕ_discrete (stretch_count (alike at) (suc a + (d + 1))) (stretch_count (alike at) (suc a))) [
      | no ne ↦ omega arith
      | yes z ↦
          let g : suc a + d ≡ a + (d + 1) = omega arith in
          let s : alike (cut at (suc a) d) a ≡ true =
          ap₂ same_marks (cut_before at (suc a) d a (omega arith)) (cut_from at (suc a) d (suc a) (omega arith) ∙ ap at g) ∙ along at a (d + 1) z in
          rw s (omega arith)
    ])

-- so however far one counts behind the cut, there are no more stretches than there were
cut_fewer : (at : ℕ → List Mark) (a d k : ℕ) → stretch_count (alike (cut at a d)) (a + k) ≤ stretch_count (alike at) (a + d + k)
unfolding sum_below
cut_fewer at a d zero =
    let e : a + 0 ≡ a = omega arith in
    let g : a + d + 0 ≡ a + d = omega arith in
    rw (e, g) (omega (arith, starts_before at a d, more_starts (alike at) a d))
cut_fewer at a d (suc zero) = let e : a + 1 ≡ suc a = omega arith in rw e (cut_meets at a d)
cut_fewer at a d (suc (suc k)) =
    let e : a + suc (suc k) ≡ suc (a + suc k) = omega arith in
    let g : a + d + suc (suc k) ≡ suc (a + d + suc k) = omega arith in
    rw (e, g) (omega (arith, cut_fewer at a d (suc k), starts_behind at a d k))

-- ---- a deletion within the length leaves no more runs
pub delete_fewer : (a b : ℕ) (v : View) → a ≤ b → b ≤ v.length → runs_held (after_delete a b v) ≤ runs_held v
unfolding after_delete
delete_fewer a b v up fits = go v.touched
  where
    gone : runs_held (record { length = v.length - (b - a); touched = true; at = cut v.at a (b - a) }) ≤ runs_held v
    gone =
        let e : v.length - (b - a) ≡ a + (v.length - b) = omega arith in
        let g : a + (b - a) + (v.length - b) ≡ v.length = omega arith in
        omega (
          arith,
          ap (stretch_count (alike (cut v.at a (b - a)))) e,
          ap (stretch_count (alike v.at)) g,
          cut_fewer v.at a (b - a) (v.length - b),
        )

    go : (t : Bool) → runs_held (cond t (record { length = v.length - (b - a); touched = true; at = cut v.at a (b - a) }) v) ≤ runs_held v
    go true = gone
    go false = omega arith
