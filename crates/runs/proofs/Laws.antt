-- The laws of run lists, and of pushes onto them and copies as the code makes them (Copies).
use Prim.Native.Nat.{ℕ, zero, suc, ◌+◌, ◌-◌, ◌≤◌, ◌<◌, ◌^◌, min}
use mathlib.Core.Path.{◌≡◌, refl, sym, ap, ◌∙◌, subst}
use mathlib.Core.List.{List, [], ◌∷◌}
use native.Mathlib.Omega.{arith}
use native.Mathlib.Decide.{dec_lt, ℕ_discrete}
use native.Mathlib.Numerals.{add-one, sub-one}
use lib.ListN.{length, get_or, set}
use lib.Seq.{get_or-set_same, get_or-set_other}
use borrow.Author.Tests.{lt-ltb, le-ltb, eq-eqb, ne_eqb}
use Rattle.runs.specs.Positions.{sum_below}
use Rattle.runs.specs.Runs.{Run, run, runs, total, set_at, Other, Canon, sums, Found}
use Rattle.runs.proofs.Copies.{join_run, push_run, clip, copy_runs}
use Rattle.runs.proofs.SumLaws.{rising, sum_up, sum_next}

-- ---- the three forms of a push
pub push_none : (rs : List Run) (l s : ℕ) → l ≡ 0 → push_run rs l s ≡ rs
unfolding push_run
push_none rs l s e = simp (eq-eqb l 0 e)

pub push_join : (r : Run) (rs : List Run) (l s : ℕ) → (l ≡ 0 → ⊥) → r.set ≡ s → push_run (r ∷ rs) l s ≡ run (r.len + l) s ∷ rs
unfolding push_run join_run
push_join r rs l s h e = simp (ne_eqb l 0 h, eq-eqb r.set s e)

pub push_new : (rs : List Run) (l s : ℕ) → (l ≡ 0 → ⊥) → Other s rs → push_run rs l s ≡ run l s ∷ rs
unfolding push_run join_run Other
push_new [] l s h o = simp (ne_eqb l 0 h)
push_new (r ∷ rs) l s h o = simp (ne_eqb l 0 h, ne_eqb r.set s o)

-- what holds of each of the three forms holds of a push
module _ (P : List Run → List Run → Type 0) (l s : ℕ) (none : (rs : List Run) → l ≡ 0 → P rs rs)
    (join : (r : Run) (rs : List Run) → (l ≡ 0 → ⊥) → r.set ≡ s → P (r ∷ rs) (run (r.len + l) s ∷ rs))
    (new : (rs : List Run) → (l ≡ 0 → ⊥) → Other s rs → P rs (run l s ∷ rs)) where
  push_more : (rs : List Run) → (l ≡ 0 → ⊥) → P rs (push_run rs l s)
  unfolding Other
  push_more [] nz = rw (push_new [] l s nz tt) (new [] nz tt)
  push_more (r ∷ rs) nz =
      elim (ℕ_discrete r.set s) [
        | yes e ↦ rw (push_join r rs l s nz e) (join r rs nz e)
        | no d ↦ rw (push_new (r ∷ rs) l s nz d) (new (r ∷ rs) nz d)
      ]

  pub push_by : (rs : List Run) → P rs (push_run rs l s)
  push_by rs = elim (ℕ_discrete l 0) [ yes z ↦ rw (push_none rs l s z) (none rs z) | no nz ↦ push_more rs nz ]

-- ---- the set at a position, by where the position is
pub at_in : (r : Run) (rs : List Run) (p : ℕ) → p < total rs → set_at (r ∷ rs) p ≡ set_at rs p
unfolding set_at
at_in r rs p h = simp (lt-ltb p (total rs) h)

pub at_last : (r : Run) (rs : List Run) (p : ℕ) → total rs ≤ p → p < total rs + r.len → set_at (r ∷ rs) p ≡ r.set
unfolding set_at
at_last r rs p g h = simp (le-ltb p (total rs) g, lt-ltb p (total rs + r.len) h)

pub at_past : (rs : List Run) (p : ℕ) → total rs ≤ p → set_at rs p ≡ 0
unfolding set_at total
at_past [] p h = refl
at_past (r ∷ rs) p h = simp (le-ltb p (total rs) (omega arith), le-ltb p (total rs + r.len) h)

-- ---- a push: how many positions, the set at each, the form, the number of runs
pub total_push : (rs : List Run) (l s : ℕ) → total (push_run rs l s) ≡ total rs + l
unfolding total
total_push rs l s =
    push_by (λ a b. total b ≡ total a + l) l s (λ a z. omega arith) (λ r a nz e. omega arith) (λ a nz o. omega arith) rs

pub push_before : (rs : List Run) (l s p : ℕ) → p < total rs → set_at (push_run rs l s) p ≡ set_at rs p
unfolding total
push_before rs l s p h =
    push_by (λ a b. p < total a → set_at b p ≡ set_at a p) l s (λ a z g. refl)
    (λ r a nz e g.
    elim (dec_lt p (total a)) [
      | yes k ↦ at_in _ a p k ∙ sym (at_in r a p k)
      | no k ↦ at_last (run (r.len + l) s) a p (omega arith) (omega arith) ∙ sym e ∙ sym (at_last r a p (omega arith) g)
    ])
    (λ a nz o g. at_in _ a p g)
    rs
    h

pub push_at : (rs : List Run) (l s p : ℕ) → total rs ≤ p → p < total rs + l → set_at (push_run rs l s) p ≡ s
unfolding total
push_at rs l s p g h =
    push_by (λ a b. total a ≤ p → p < total a + l → set_at b p ≡ s) l s (λ a z x y. absurd (omega arith))
    (λ r a nz e x y. at_last (run (r.len + l) s) a p (omega arith) (omega arith))
    (λ a nz o x y. at_last (run l s) a p x y)
    rs
    g
    h

pub canon_push : (rs : List Run) (l s : ℕ) → Canon rs → Canon (push_run rs l s)
unfolding Canon
canon_push rs l s h =
    push_by (λ a b. Canon a → Canon b) l s (λ a z c. c)
    (λ r a nz e c. (omega arith, subst (λ (x : ℕ). Other x a) e c.1, c.2))
    (λ a nz o c. (omega arith, o, c))
    rs
    h

pub push_longer : (rs : List Run) (l s : ℕ) → length rs ≤ length (push_run rs l s)
push_longer rs l s =
    push_by (λ a b. length a ≤ length b) l s (λ a z. omega arith) (λ r a nz e. omega arith) (λ a nz o. omega arith) rs

-- ---- the runs of two parallel lists
pub length_runs : (lens sets : List ℕ) (n : ℕ) → length (runs lens sets n) ≡ n
unfolding runs
length_runs lens sets zero = refl
length_runs lens sets (suc n) = ap suc (length_runs lens sets n)

pub runs_last : (lens sets : List ℕ) (n : ℕ) → 0 < n
    → runs lens sets n ≡ run (get_or lens (n - 1) 0) (get_or sets (n - 1) 0) ∷ runs lens sets (n - 1)
unfolding runs
runs_last lens sets zero h = absurd (omega arith)
runs_last lens sets (suc n) h = rw sub-one refl

-- lists that agree in the first n entries
pub runs_ext : (lens sets lens' sets' : List ℕ) (n : ℕ) → ((j : ℕ) → j < n → get_or lens' j 0 ≡ get_or lens j 0)
    → ((j : ℕ) → j < n → get_or sets' j 0 ≡ get_or sets j 0) → runs lens' sets' n ≡ runs lens sets n
unfolding runs
runs_ext lens sets lens' sets' zero l s = refl
runs_ext lens sets lens' sets' (suc n) l s =
    let e = runs_ext lens sets lens' sets' n (λ j h. l j (omega arith)) (λ j h. s j (omega arith)) in
    let a = l n (omega arith) in
    let b = s n (omega arith) in
    cc

-- ---- a copy: how many positions, the set at each, the form
module _ (f : ℕ → ℕ) (base : List Run) (from to : ℕ) where
  pub total_copy : (src : List Run) → total (copy_runs f base from to src) ≡ total base + (min to (total src) - from)
  unfolding copy_runs total
  total_copy [] = omega arith
  total_copy (r ∷ rs) =
      omega
      (arith, total_push (copy_runs f base from to rs) (clip from to (total rs) r.len) (f r.set), total_copy rs)

  pub copy_before : (src : List Run) (p : ℕ) → p < total base → set_at (copy_runs f base from to src) p ≡ set_at base p
  unfolding copy_runs
  copy_before [] p h = refl
  copy_before (r ∷ rs) p h =
      push_before (copy_runs f base from to rs) (clip from to (total rs) r.len) (f r.set) p (omega (arith, total_copy rs)) ∙ copy_before rs p h

  pub copy_at : (src : List Run) (p : ℕ) → from + p < to → from + p < total src
      → set_at (copy_runs f base from to src) (total base + p) ≡ f (set_at src (from + p))
  unfolding copy_runs total
  copy_at [] p g h = absurd (omega arith)
  copy_at (r ∷ rs) p g h =
      let t = total_copy rs in
      elim (dec_lt (from + p) (total rs)) [
        | yes k ↦
            push_before (copy_runs f base from to rs) (clip from to (total rs) r.len) (f r.set) (total base + p) (omega arith) ∙ copy_at rs p g k
            ∙ ap f (sym (at_in r rs (from + p) k))
        | no k ↦
            push_at (copy_runs f base from to rs) (clip from to (total rs) r.len) (f r.set) (total base + p) (omega arith) (omega arith)
            ∙ ap f (sym (at_last r rs (from + p) (omega arith) h))
      ]

  pub canon_copy : (src : List Run) → Canon base → Canon (copy_runs f base from to src)
  unfolding copy_runs
  canon_copy [] h = h
  canon_copy (r ∷ rs) h = canon_push (copy_runs f base from to rs) (clip from to (total rs) r.len) (f r.set) (canon_copy rs h)

-- ---- a canonical list is determined by its meaning
no_less : (x y : Run) (xs ys : List Run) → Canon (y ∷ ys) → total xs + x.len ≡ total ys + y.len → x.set ≡ y.set
    → ((p : ℕ) → set_at (x ∷ xs) p ≡ set_at (y ∷ ys) p) → total xs < total ys → ⊥
unfolding Canon Other total
no_less x y xs [] c t e h k = omega arith
no_less x y xs (z ∷ zs) c t e h k =
    let p = total zs + z.len - 1 in
    let pos = c.2.0 in
    c.1 (sym (at_last z zs p (omega arith) (omega arith)) ∙ sym (at_in y (z ∷ zs) p (omega arith)) ∙ sym (h p) ∙ at_last x xs p (omega arith) (omega arith) ∙ e)

same_run : (x y : Run) (xs ys : List Run) → x.len ≡ y.len → x.set ≡ y.set → xs ≡ ys → x ∷ xs ≡ y ∷ ys
same_run x y xs ys l s e = λ i. record { len = l i; set = s i } ∷ e i

-- the runs before the last mean what the whole means below their total
rest_at : (x y : Run) (xs ys : List Run) → total xs ≡ total ys → ((p : ℕ) → set_at (x ∷ xs) p ≡ set_at (y ∷ ys) p) → (p : ℕ) → set_at xs p ≡ set_at ys p
rest_at x y xs ys t h p =
    elim (dec_lt p (total xs)) [
      | yes k ↦ sym (at_in x xs p k) ∙ h p ∙ at_in y ys p (omega arith)
      | no k ↦ at_past xs p (omega arith) ∙ sym (at_past ys p (omega arith))
    ]

pub unique : (xs ys : List Run) → Canon xs → Canon ys → total xs ≡ total ys → ((p : ℕ) → set_at xs p ≡ set_at ys p) → xs ≡ ys
unfolding Canon total
unique [] [] c d t h = refl
unique [] (y ∷ ys) c d t h = absurd (omega arith)
unique (x ∷ xs) [] c d t h = absurd (omega arith)
unique (x ∷ xs) (y ∷ ys) c d t h =
    let q = total xs + x.len - 1 in
    let e : x.set ≡ y.set = sym (at_last x xs q (omega arith) (omega arith)) ∙ h q ∙ at_last y ys q (omega arith) (omega arith) in
    let n : total xs < total ys → ⊥ = no_less x y xs ys d t e h in
    let m : total ys < total xs → ⊥ = no_less y x ys xs c (sym t) (sym e) (λ p. sym (h p)) in
    same_run x y xs ys (omega arith) e (unique xs ys c.2 d.2 (omega arith) (rest_at x y xs ys (omega arith) h))

-- ---- what the stores of a push do to the runs of two parallel lists
module _ (lens sets : List ℕ) (n l s : ℕ) where
  pub push_room : (length (push_run (runs lens sets n) l s) ≤ length lens) → n ≤ length lens
  push_room h = omega (arith, push_longer (runs lens sets n) l s, length_runs lens sets n)

  pub new_room : (length (push_run (runs lens sets n) l s) ≤ length lens) → (l ≡ 0 → ⊥) → Other s (runs lens sets n) → n < length lens
  new_room h nz o = omega (arith, ap length (push_new (runs lens sets n) l s nz o), length_runs lens sets n)

  pub last_le : 0 < n → get_or lens (n - 1) 0 ≤ total (runs lens sets n)
  unfolding total
  last_le h = rw (runs_last lens sets n h) (omega arith)

  pub other_runs : (0 < n → get_or sets (n - 1) 0 ≡ s → ⊥) → Other s (runs lens sets n)
  unfolding Other runs
  other_runs d =
      elim (dec_lt 0 n) [
        | yes h ↦ rw (runs_last lens sets n h) (d h)
        | no h ↦ let z : n ≡ 0 = omega arith in rw z tt
      ]

  pub store_join : 0 < n → n ≤ length lens → (l ≡ 0 → ⊥) → get_or sets (n - 1) 0 ≡ s
      → runs (set lens (n - 1) (get_or lens (n - 1) 0 + l)) sets n ≡ push_run (runs lens sets n) l s
  store_join p h nz e =
      let v = get_or lens (n - 1) 0 + l in
      let r = runs_last lens sets n p in
      let r' = runs_last (set lens (n - 1) v) sets n p in
      let g = get_or-set_same lens (n - 1) v 0 (omega arith) in
      let k = runs_ext lens sets (set lens (n - 1) v) sets (n - 1) (λ j q. get_or-set_other lens (n - 1) j v 0 (omega arith)) (λ j q. refl) in
      rw r (rw (push_join (run (get_or lens (n - 1) 0) (get_or sets (n - 1) 0)) (runs lens sets (n - 1)) l s nz e) (cc))

  pub store_new : n < length lens → n < length sets → (l ≡ 0 → ⊥) → Other s (runs lens sets n)
      → runs (set lens n l) (set sets n s) (n + 1) ≡ push_run (runs lens sets n) l s
  unfolding runs
  store_new h h' nz o =
      let a = get_or-set_same lens n l 0 h in
      let b = get_or-set_same sets n s 0 h' in
      let c = runs_ext lens sets (set lens n l) (set sets n s) n (λ j q. get_or-set_other lens n j l 0 (omega arith)) (λ j q. get_or-set_other sets n j s 0 (omega arith)) in
      rw (add-one, push_new (runs lens sets n) l s nz o) (cc)

-- ---- the runs hold as many positions as their lengths sum up to
pub total_sums : (lens sets : List ℕ) (n : ℕ) → total (runs lens sets n) ≡ sums lens n
unfolding runs total sum_below
total_sums lens sets zero = refl
total_sums lens sets (suc n) = ap (λ (x : ℕ). x + get_or lens n 0) (total_sums lens sets n)

-- ---- the runs of one entry more
module _ (lens sets : List ℕ) where
  pub total_more : (k : ℕ) → total (runs lens sets (k + 1)) ≡ total (runs lens sets k) + get_or lens k 0
  unfolding runs total
  total_more k = rw add-one

  pub total_mono : (k m : ℕ) → k ≤ m → total (runs lens sets k) ≤ total (runs lens sets m)
  total_mono k m h = omega (arith, total_sums lens sets k, total_sums lens sets m, sum_up (λ i. get_or lens i 0) k m h)

  -- in a loop over the runs: where run k ends
  pub turn_end : {n start : ℕ} (k : ℕ) → start ≡ total (runs lens sets k) → k < n → total (runs lens sets n) < 2 ^ 63 → start + get_or lens k 0 < 2 ^ 63
  turn_end {n} k e h g = omega (arith, total_more k, total_mono (k + 1) n (omega arith))

  module _ (f : ℕ → ℕ) (base : List Run) (from to k : ℕ) where
    pub copy_more : copy_runs f base from to (runs lens sets (k + 1))
        ≡ push_run (copy_runs f base from to (runs lens sets k)) (clip from to (total (runs lens sets k)) (get_or lens k 0)) (f (get_or sets k 0))
    unfolding runs copy_runs
    copy_more = rw add-one

  -- the copy of more runs is as long at least, and holds as many positions at least
  pub copy_grows : (f : ℕ → ℕ) (base : List Run) (from to k m : ℕ) → k ≤ m
      → length (copy_runs f base from to (runs lens sets k)) ≤ length (copy_runs f base from to (runs lens sets m))
  unfolding runs copy_runs
  copy_grows f base from to k m h =
      rising (λ i. length (copy_runs f base from to (runs lens sets i)))
      (λ i. push_longer (copy_runs f base from to (runs lens sets i)) (clip from to (total (runs lens sets i)) (get_or lens i 0)) (f (get_or sets i 0))) k m h

  pub copy_holds : (f : ℕ → ℕ) (base : List Run) (from to k m : ℕ) → k ≤ m
      → total (copy_runs f base from to (runs lens sets k)) ≤ total (copy_runs f base from to (runs lens sets m))
  copy_holds f base from to k m h =
      omega (arith, total_copy f base from to (runs lens sets k), total_copy f base from to (runs lens sets m), total_mono k m h)

  -- runs without a position of from .. to add nothing to the copy
  copy_idle : (f : ℕ → ℕ) (base : List Run) (from to k m : ℕ) → k ≤ m → ((i : ℕ) → k ≤ i → i < m → clip from to (total (runs lens sets i)) (get_or lens i 0) ≡ 0)
      → copy_runs f base from to (runs lens sets m) ≡ copy_runs f base from to (runs lens sets k)
  unfolding runs copy_runs
  copy_idle f base from to k zero h idle = let e : 0 ≡ k = omega arith in ap (λ (i : ℕ). copy_runs f base from to (runs lens sets i)) e
  copy_idle f base from to k (suc m) h idle =
      elim (dec_lt m k) [
        | yes l ↦ let e : suc m ≡ k = omega arith in ap (λ (i : ℕ). copy_runs f base from to (runs lens sets i)) e
        | no l ↦
            push_none (copy_runs f base from to (runs lens sets m)) (clip from to (total (runs lens sets m)) (get_or lens m 0)) (f (get_or sets m 0)) (idle m (omega arith) (omega arith))
            ∙ copy_idle f base from to k m (omega arith) (λ i a b. idle i a (omega arith))
      ]

  -- those before `from`
  pub copy_early : (f : ℕ → ℕ) (base : List Run) (from to k : ℕ) → total (runs lens sets k) ≤ from → copy_runs f base from to (runs lens sets k) ≡ base
  unfolding runs copy_runs
  copy_early f base from to k h = copy_idle f base from to 0 k (omega arith) (λ i a b. omega (arith, total_more i, total_mono (i + 1) k (omega arith)))

  -- those from `to` on
  pub copy_late : (f : ℕ → ℕ) (base : List Run) (from to k m : ℕ) → k ≤ m → to ≤ total (runs lens sets k) → copy_runs f base from to (runs lens sets m) ≡ copy_runs f base from to (runs lens sets k)
  copy_late f base from to k m g h = copy_idle f base from to k m g (λ i a b. omega (arith, total_mono k i a))

-- ---- there is one run that holds a position, with one start and one end
found_le : {lens : List ℕ} {n pos i start end j start' end' : ℕ} → Found lens n pos i start end → Found lens n pos j start' end' → i < j → ⊥
found_le {lens} {n} {pos} {i} {start} {end} {j} f g h =
    let a = f.starts in
    let b = g.starts in
    let c = g.reached in
    let w = g.within in
    let below = f.inside (omega arith) in
    omega (arith, below.0, below.1, sum_next (λ k. get_or lens k 0) i j h)

found_index : {lens : List ℕ} {n pos i start end j start' end' : ℕ} → Found lens n pos i start end → Found lens n pos j start' end' → i ≡ j
found_index {lens} {n} {pos} {i} {start} {end} {j} f g =
    let a : i < j → ⊥ = found_le f g in
    let b : j < i → ⊥ = found_le g f in
    omega arith

pub found_one : {lens : List ℕ} {n pos i start end j start' end' : ℕ} → Found lens n pos i start end → Found lens n pos j start' end'
    → (i ≡ j) × (start ≡ start') × (end ≡ end')
found_one {lens} {n} {pos} {i} {start} {end} {j} {start'} {end'} f g =
    let e : i ≡ j = found_index f g in
    let s : start ≡ start' = f.starts ∙ ap (sums lens) e ∙ sym g.starts in
    let l = ap (λ (x : ℕ). get_or lens x 0) e in
    elim (dec_lt i n) [
      | yes h ↦ (e, s, omega (arith, (f.inside h).1, (g.inside (omega arith)).1))
      | no h ↦ (e, s, f.past (omega arith) ∙ s ∙ sym (g.past (omega arith)))
    ]

-- the run that is found has the position's set
pub found_set : (lens sets : List ℕ) (n pos i start end : ℕ) → Found lens n pos i start end → i < n → set_at (runs lens sets n) pos ≡ get_or sets i 0
unfolding runs
found_set lens sets zero pos i start end f h = absurd (omega arith)
found_set lens sets (suc n) pos i start end f h =
    let below = f.inside h in
    let a = f.starts in
    let b = f.reached in
    let c = below.0 in
    let d = below.1 in
    let s = total_sums lens sets n in
    elim (dec_lt i n) [
      | yes g ↦
          at_in (run (get_or lens n 0) (get_or sets n 0)) (runs lens sets n) pos (omega (arith, sum_next (λ k. get_or lens k 0) i n g))
          ∙ found_set lens sets n pos i start end
          (record { within = omega arith; starts = f.starts; reached = f.reached; inside = λ _. below; past = λ z. absurd (omega arith) }) g
      | no g ↦
          let e : i ≡ n = omega arith in
          at_last (run (get_or lens n 0) (get_or sets n 0)) (runs lens sets n) pos (omega (arith, ap (sums lens) e)) (omega (arith, ap (sums lens) e, ap (λ (x : ℕ). get_or lens x 0) e))
          ∙ ap (λ (x : ℕ). get_or sets x 0) (sym e)
    ]

-- past the end there is no set
pub found_none : (lens sets : List ℕ) (n pos i start end : ℕ) → Found lens n pos i start end → n ≤ i → set_at (runs lens sets n) pos ≡ 0
found_none lens sets n pos i start end f h =
    let w = f.within in
    let a = f.starts in
    let b = f.reached in
    let e : i ≡ n = omega arith in
    at_past (runs lens sets n) pos (omega (arith, total_sums lens sets n, ap (sums lens) e))
