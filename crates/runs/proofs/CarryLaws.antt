-- A part of a joined list that goes over in one piece is the copy of that part, run by run.
use Prim.Native.Nat.{ℕ, zero, suc, ◌+◌, ◌-◌, ◌≤◌, ◌<◌, min}
use mathlib.Core.Path.{◌≡◌, refl, sym, ap, ◌∙◌, subst}
use mathlib.Core.List.{List, [], ◌∷◌}
use native.Mathlib.Omega.{arith}
use native.Mathlib.Decide.{dec_lt}
use native.Mathlib.Numerals.{add-one}
use lib.ListN.{length, get_or, take, drop, length-take, length-drop}
use lib.Seq.{get_or-take}
use borrow.Rule.Slice.PartMut.{put_mid}
use Rattle.std.proofs.lemmas.List.{get_or-drop, get_or-append_right}
use Rattle.std.proofs.lemmas.Slice.{take-put_mid, take-put_mid_below, drop-put_mid}
use Rattle.runs.specs.Runs.{Run, run, runs, total, set_at, Other, Canon, changing, Found, SameBehind}
use Rattle.runs.specs.Edits.{CanPush, Appended}
use Rattle.runs.specs.Carry.{Carried, CanCarry}
use Rattle.runs.proofs.Copies.{push_run, clip, copy_runs, adding}
use Rattle.runs.proofs.Laws.{push_new, push_by, push_longer, length_runs, runs_ext, total_sums, total_more, total_mono, copy_more, copy_grows, copy_holds, copy_late, copy_early}
use Rattle.runs.proofs.EditLaws.{add_none, joined_is, pushed_is, copied_joined, push_can}

-- ---- numbers carried over: a part of a list is written over by as many numbers of another
module _ (n k count : ℕ) (source xs ys : List ℕ) (room : n + count ≤ length xs) (there : k + count ≤ length source) (is : ys ≡ take (k + count - k) (drop k source)) where
  carried_long : length ys ≡ n + count - n
  carried_long = omega (arith, ap length is, length-take (k + count - k) (drop k source), length-drop k source)

  carried_here : (j : ℕ) → j < count → get_or (put_mid n (n + count - n) xs ys) (n + j) 0 ≡ get_or source (k + j) 0
  carried_here j h =
      let front : length (take n xs) ≡ n = omega (arith, length-take n xs) in
      let at : n + j - n ≡ j = omega arith in
      let below : j < k + count - k = omega arith in
      sym (get_or-take (n + count) (put_mid n (n + count - n) xs ys) (n + j) 0 (omega arith))
      ∙ ap (λ (x : List ℕ). get_or x (n + j) 0) (take-put_mid n (n + count - n) xs ys (n + count) (omega (arith, carried_long)) (omega arith))
      ∙ get_or-append_right (take n xs) ys n (n + j) 0 front (omega arith)
      ∙ rw (at, is) (get_or-take (k + count - k) (drop k source) j 0 below ∙ get_or-drop k source j 0)

  pub carried_part : Carried n k count source xs (put_mid n (n + count - n) xs ys)
  carried_part =
      record {
        front = λ j h.
            sym (get_or-take n (put_mid n (n + count - n) xs ys) j 0 h)
            ∙ ap (λ (x : List ℕ). get_or x j 0) (take-put_mid_below n (n + count - n) xs ys n (omega arith) (omega arith))
            ∙ get_or-take n xs j 0 h;
        here = carried_here;
        rest = drop-put_mid n (n + count - n) xs ys (n + count) (omega arith) (omega arith) carried_long;
      }

-- ---- the runs before a place
pub canon_first : (lens sets : List ℕ) (n m : ℕ) → n ≤ m → Canon (runs lens sets m) → Canon (runs lens sets n)
unfolding runs Canon
canon_first lens sets n zero h c = let e : n ≡ 0 = omega arith in rw e c
canon_first lens sets n (suc m) h c =
    elim (dec_lt n (suc m)) [
      | yes l ↦ canon_first lens sets n m (omega arith) c.2
      | no l ↦ let e : n ≡ suc m = omega arith in rw e c
    ]

-- are their own copy
copy_self : (to : ℕ) (rs : List Run) → Canon rs → total rs ≤ to → copy_runs (adding 0) [] 0 to rs ≡ rs
unfolding copy_runs Canon total
copy_self to [] c h = refl
copy_self to (r ∷ rs) c h =
    let l : clip 0 to (total rs) r.len ≡ r.len = omega arith in
    rw (copy_self to rs c.2 (omega arith), l, add_none r.set) (push_new rs r.len r.set (λ z. omega (arith, c.0)) c.1)

module _ (lens sets : List ℕ) (m to : ℕ) (c : Canon (runs lens sets m)) where
  pub front_all : total (runs lens sets m) ≤ to → runs lens sets m ≡ copy_runs (adding 0) [] 0 to (runs lens sets m)
  front_all h = sym (copy_self to (runs lens sets m) c h)

  pub front_is : (i : ℕ) → i < m → total (runs lens sets i) ≤ to → to ≤ total (runs lens sets i) + get_or lens i 0
      → push_run (runs lens sets i) (to - total (runs lens sets i)) (get_or sets i 0) ≡ copy_runs (adding 0) [] 0 to (runs lens sets m)
  front_is i h g k =
      let l : clip 0 to (total (runs lens sets i)) (get_or lens i 0) ≡ to - total (runs lens sets i) = omega arith in
      sym
      (copy_late lens sets (adding 0) [] 0 to (i + 1) m (omega arith) (omega (arith, total_more lens sets i))
      ∙ copy_more lens sets (adding 0) [] 0 to i
      ∙ rw (copy_self to (runs lens sets i) (canon_first lens sets i m (omega arith) c) g, l, add_none (get_or sets i 0)) refl)

-- ---- the runs behind a place
-- the last run has this set
unfoldable Ends : ℕ → List Run → Type 0
Ends s [] = ⊥
Ends s (r ∷ rs) = r.set ≡ s

ends_other : (s x : ℕ) (rs : List Run) → Ends s rs → (s ≡ x → ⊥) → Other x rs
unfolding Ends Other
ends_other s x [] e ne = absurd e
ends_other s x (r ∷ rs) e ne = λ z. ne (sym e ∙ z)

push_ends : (l s : ℕ) (rs : List Run) → (l ≡ 0 → ⊥) → Ends s (push_run rs l s)
unfolding Ends
push_ends l s rs nz = push_by (λ a b. Ends s b) l s (λ a z. absurd (nz z)) (λ r a z e. refl) (λ a z o. refl) rs

module _ (lens sets : List ℕ) (m : ℕ) (c : Canon (runs lens sets m)) (base : List Run) (from all i : ℕ) (all_is : all ≡ total (runs lens sets m)) (there : i < m) (begun : total (runs lens sets i) ≤ from) (ends : from < total (runs lens sets i) + get_or lens i 0) where
  -- the copy of the first j runs
  abbrev copied : ℕ → List Run
  copied j = copy_runs (adding 0) base from all (runs lens sets j)

  pub rear_first : push_run base (total (runs lens sets i) + get_or lens i 0 - from) (get_or sets i 0) ≡ copied (i + 1)
  rear_first =
      let l : clip from all (total (runs lens sets i)) (get_or lens i 0) ≡ total (runs lens sets i) + get_or lens i 0 - from = omega (arith, total_more lens sets i, total_mono lens sets (i + 1) m (omega arith)) in
      sym (copy_more lens sets (adding 0) base from all i ∙ rw (copy_early lens sets (adding 0) base from all i begun, l, add_none (get_or sets i 0)) refl)

  -- neighbours differ, and no run is empty
  differ : (j : ℕ) → suc j < m → get_or sets j 0 ≡ get_or sets (suc j) 0 → ⊥
  unfolding runs Canon Other
  differ j h = (canon_first lens sets (suc (suc j)) m h c).1

  filled : (j : ℕ) → j < m → 0 < get_or lens j 0
  unfolding runs Canon
  filled j h = (canon_first lens sets (suc j) m h c).0

  step_of : (j : ℕ) → i ≤ j → suc j < m → Ends (get_or sets j 0) (copied (suc j)) → copied (suc (suc j)) ≡ run (get_or lens (suc j) 0) (get_or sets (suc j) 0) ∷ copied (suc j)
  step_of j g h e =
      let k = suc j in
      let up = total_mono lens sets (i + 1) k (omega arith) in
      let l : clip from all (total (runs lens sets k)) (get_or lens k 0) ≡ get_or lens k 0 = omega (arith, total_more lens sets i, up, total_more lens sets k, total_mono lens sets (k + 1) m (omega arith)) in
      let q : copied (k + 1) ≡ run (get_or lens k 0) (get_or sets k 0) ∷ copied k =
      copy_more lens sets (adding 0) base from all k
      ∙ rw (l, add_none (get_or sets k 0)) (push_new (copied k) (get_or lens k 0) (get_or sets k 0) (λ z. omega (arith, filled k h)) (ends_other (get_or sets j 0) (get_or sets k 0) (copied k) e (differ j h))) in
      subst (λ (x : ℕ). copied x ≡ run (get_or lens k 0) (get_or sets k 0) ∷ copied k) (add-one k) q

  ends_at : (n : ℕ) → i + n < m → Ends (get_or sets (i + n) 0) (copied (suc (i + n)))
  unfolding Ends
  ends_at zero h =
      let z : i + 0 ≡ i = omega arith in
      let f = push_ends (total (runs lens sets i) + get_or lens i 0 - from) (get_or sets i 0) base (λ e. omega arith) in
      rw z (subst (Ends (get_or sets i 0)) (rear_first ∙ ap copied (add-one i)) f)
  ends_at (suc n) h =
      let z : i + suc n ≡ suc (i + n) = omega arith in
      rw z (rw (step_of (i + n) (omega arith) (omega arith) (ends_at n (omega arith))) refl)

  -- so each run behind it goes over as it is
  pub rear_step : (n : ℕ) → i + 1 + n < m → copied (i + 1 + n + 1) ≡ run (get_or lens (i + 1 + n) 0) (get_or sets (i + 1 + n) 0) ∷ copied (i + 1 + n)
  rear_step n h =
      let a : i + 1 + n ≡ suc (i + n) = omega arith in
      let b : i + 1 + n + 1 ≡ suc (suc (i + n)) = omega arith in
      rw (b, a) (step_of (i + n) (omega arith) (omega arith) (ends_at n (omega arith)))

  pub rear_length : (n : ℕ) → i + 1 + n ≤ m → length (copied (i + 1 + n)) ≡ length (copied (i + 1)) + n
  rear_length zero h = let z : i + 1 + 0 ≡ i + 1 = omega arith in rw z (omega arith)
  rear_length (suc n) h =
      let z : i + 1 + suc n ≡ i + 1 + n + 1 = omega arith in
      rw z (omega (arith, ap length (rear_step n (omega arith)), rear_length n (omega arith)))

  pub rear_runs : (olens osets : List ℕ) (at : ℕ) → runs olens osets at ≡ copied (i + 1)
      → (n : ℕ) → i + 1 + n ≤ m → ((j : ℕ) → j < n → get_or olens (at + j) 0 ≡ get_or lens (i + 1 + j) 0) → ((j : ℕ) → j < n → get_or osets (at + j) 0 ≡ get_or sets (i + 1 + j) 0)
      → runs olens osets (at + n) ≡ copied (i + 1 + n)
  unfolding runs
  rear_runs olens osets at e zero h l s =
      let z : i + 1 + 0 ≡ i + 1 = omega arith in
      let y : at + 0 ≡ at = omega arith in
      rw (z, y) e
  rear_runs olens osets at e (suc n) h l s =
      let z : i + 1 + suc n ≡ i + 1 + n + 1 = omega arith in
      let y : at + suc n ≡ suc (at + n) = omega arith in
      let r = rear_runs olens osets at e n (omega arith) (λ j g. l j (omega arith)) (λ j g. s j (omega arith)) in
      let a = l n (omega arith) in
      let b = s n (omega arith) in
      rw (z, y, rear_step n (omega arith)) (λ j. run (a j) (b j) ∷ r j)

-- ---- the front of a list, carried and then pushed to its end
module _ {olens osets lens sets : List ℕ} {m all to i start end : ℕ} (can : CanCarry olens osets 0 lens sets m all 0 to) (f : Found lens m to i start end) where
  -- the copy of the part, run by run
  abbrev parted : List Run
  parted = copy_runs (adding 0) (runs olens osets 0) 0 to (runs lens sets m)

  parted_joined : Appended (runs olens osets 0) (min to (total (runs lens sets m)) - 0) (λ q. changing 0 0 (set_at (runs lens sets m) (0 + q))) parted
  parted_joined = copied_joined (adding 0) (runs olens osets 0) 0 to (runs lens sets m) can.can.joined

  begins : start ≡ total (runs lens sets i)
  begins = f.starts ∙ sym (total_sums lens sets i)

  front_push : i < m → push_run (runs lens sets i) (to - start) (get_or sets i 0) ≡ parted
  unfolding runs
  front_push h =
      let b = f.inside h in
      subst (λ (x : ℕ). push_run (runs lens sets i) (to - x) (get_or sets i 0) ≡ parted) (sym begins)
      (front_is lens sets m to can.canon i h (omega (arith, begins, f.reached)) (omega (arith, begins, b.0, b.1)))

  front_whole : m ≤ i → runs lens sets i ≡ parted
  unfolding runs
  front_whole h =
      let w = f.within in
      let e : m ≡ i = omega arith in
      subst (λ (x : ℕ). runs lens sets x ≡ parted) e (front_all lens sets m to can.canon (omega (arith, ap (λ (x : ℕ). total (runs lens sets x)) e, begins, f.reached)))

  pub front_room : i ≤ length olens
  front_room =
      elim (dec_lt i m) [
        | yes h ↦ omega (arith, can.can.room parted parted_joined, ap length (front_push h), push_longer (runs lens sets i) (to - start) (get_or sets i 0), length_runs lens sets i)
        | no h ↦ omega (arith, can.can.room parted parted_joined, ap length (front_whole (omega arith)), length_runs lens sets i)
      ]

  module _ (olens' osets' : List ℕ) (a : Carried 0 0 i lens olens olens') (b : Carried 0 0 i sets osets osets') where
    same_front : runs olens' osets' i ≡ runs lens sets i
    same_front =
        runs_ext lens sets olens' osets' i
        (λ j h. let z : 0 + j ≡ j = omega arith in rw z at (a.here j h))
        (λ j h. let z : 0 + j ≡ j = omega arith in rw z at (b.here j h))

    pub front_behind : SameBehind i olens osets olens' osets'
    front_behind = let z : 0 + i ≡ i = omega arith in record { lens_stay = rw z at a.rest; sets_stay = rw z at b.rest }

    pub front_canon : Canon (runs olens' osets' i)
    front_canon = rw same_front (canon_first lens sets i m f.within can.canon)

    pub front_end : m ≤ i → Appended (runs olens osets 0) (min to (total (runs lens sets m)) - 0) (λ q. changing 0 0 (set_at (runs lens sets m) (0 + q))) (runs olens' osets' i)
    front_end h = joined_is parted_joined (same_front ∙ front_whole h)

    module _ (h : i < m) where
      pub front_can : length olens' ≡ length olens → length osets' ≡ length osets → CanPush olens' osets' i (to - start) (get_or sets i 0)
      front_can l k =
          let e = ap (λ (rs : List Run). push_run rs (to - start) (get_or sets i 0)) same_front ∙ front_push h in
          push_can (to - start) (get_or sets i 0) (omega (arith, can.can.even)) front_canon
          (rw e (omega (arith, can.can.room parted parted_joined))) (rw e (omega (arith, parted_joined.all, can.can.sum)))

      pub front_done : (olens'' osets'' : List ℕ) (r : ℕ) → Appended (runs olens' osets' i) (to - start) (λ q. get_or sets i 0) (runs olens'' osets'' r)
          → Appended (runs olens osets 0) (min to (total (runs lens sets m)) - 0) (λ q. changing 0 0 (set_at (runs lens sets m) (0 + q))) (runs olens'' osets'' r)
      front_done olens'' osets'' r j =
          joined_is parted_joined
          (pushed_is (runs olens' osets' i) (to - start) (get_or sets i 0) front_canon j ∙ ap (λ (rs : List Run). push_run rs (to - start) (get_or sets i 0)) same_front ∙ front_push h)

-- ---- the rear of a list, pushed from its first run and then carried
module _ {olens osets : List ℕ} {n : ℕ} {lens sets : List ℕ} {m all from i start end : ℕ} (can : CanCarry olens osets n lens sets m all from all) (f : Found lens m from i start end) where
  abbrev behind_is : List Run
  behind_is = copy_runs (adding 0) (runs olens osets n) from all (runs lens sets m)

  behind_joined : Appended (runs olens osets n) (min all (total (runs lens sets m)) - from) (λ q. changing 0 0 (set_at (runs lens sets m) (from + q))) behind_is
  behind_joined = copied_joined (adding 0) (runs olens osets n) from all (runs lens sets m) can.can.joined

  starts_at : start ≡ total (runs lens sets i)
  starts_at = f.starts ∙ sym (total_sums lens sets i)

  -- nothing is left
  pub rear_none : m ≤ i → Appended (runs olens osets n) (min all (total (runs lens sets m)) - from) (λ q. changing 0 0 (set_at (runs lens sets m) (from + q))) (runs olens osets n)
  rear_none h =
      let w = f.within in
      let e : i ≡ m = omega arith in
      joined_is behind_joined (sym (copy_early lens sets (adding 0) (runs olens osets n) from all m (omega (arith, ap (λ (x : ℕ). total (runs lens sets x)) e, starts_at, f.reached))))

  module _ (h : i < m) where
    abbrev so_far : ℕ → List Run
    so_far j = copy_runs (adding 0) (runs olens osets n) from all (runs lens sets j)

    begun_at : total (runs lens sets i) ≤ from
    begun_at = omega (arith, starts_at, f.reached)

    ends_past : from < total (runs lens sets i) + get_or lens i 0
    ends_past = let b = f.inside h in omega (arith, starts_at, b.0, b.1)

    first_push : push_run (runs olens osets n) (end - from) (get_or sets i 0) ≡ so_far (i + 1)
    first_push =
        let b = f.inside h in
        let e : total (runs lens sets i) + get_or lens i 0 ≡ end = omega (arith, starts_at, b.1) in
        subst (λ (x : ℕ). push_run (runs olens osets n) (x - from) (get_or sets i 0) ≡ so_far (i + 1)) e
        (rear_first lens sets m can.canon (runs olens osets n) from all i can.all_is h begun_at ends_past)

    pub rear_can : CanPush olens osets n (end - from) (get_or sets i 0)
    rear_can =
        push_can (end - from) (get_or sets i 0) can.can.even can.can.joined
        (rw first_push (omega (arith, can.can.room behind_is behind_joined, copy_grows lens sets (adding 0) (runs olens osets n) from all (i + 1) m (omega arith))))
        (rw first_push (omega (arith, behind_joined.all, can.can.sum, copy_holds lens sets (adding 0) (runs olens osets n) from all (i + 1) m (omega arith))))

    module _ (olens' osets' : List ℕ) (at : ℕ) (j : Appended (runs olens osets n) (end - from) (λ q. get_or sets i 0) (runs olens' osets' at)) where
      pushed_at : runs olens' osets' at ≡ so_far (i + 1)
      pushed_at = pushed_is (runs olens osets n) (end - from) (get_or sets i 0) can.can.joined j ∙ first_push

      pub rear_room : at + (m - i - 1) ≤ length olens
      rear_room =
          let e : i + 1 + (m - i - 1) ≡ m = omega arith in
          omega (
            arith,
            can.can.room behind_is behind_joined,
            ap (λ (x : ℕ). length (so_far x)) e,
            ap length pushed_at,
            length_runs olens' osets' at,
            rear_length lens sets m can.canon (runs olens osets n) from all i can.all_is h begun_at ends_past (m - i - 1) (omega arith),
          )

      module _ (olens'' osets'' : List ℕ) (a : Carried at (i + 1) (m - i - 1) lens olens' olens'') (b : Carried at (i + 1) (m - i - 1) sets osets' osets'') where
        pub rear_behind : SameBehind (at + (m - i - 1)) olens' osets' olens'' osets''
        rear_behind = record { lens_stay = a.rest; sets_stay = b.rest }

        pub rear_done : Appended (runs olens osets n) (min all (total (runs lens sets m)) - from) (λ q. changing 0 0 (set_at (runs lens sets m) (from + q))) (runs olens'' osets'' (at + (m - i - 1)))
        rear_done =
            let e : i + 1 + (m - i - 1) ≡ m = omega arith in
            joined_is behind_joined
            (rear_runs lens sets m can.canon (runs olens osets n) from all i can.all_is h begun_at ends_past olens'' osets'' at
            (runs_ext olens' osets' olens'' osets'' at a.front b.front ∙ pushed_at) (m - i - 1) (omega arith) a.here b.here
            ∙ ap so_far e)
