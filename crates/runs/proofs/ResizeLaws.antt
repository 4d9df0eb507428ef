-- One run made longer or shorter where it stands: an insertion between two of its positions, and a deletion of some of them but not all.
use Prim.Native.Nat.{ℕ, zero, suc, ◌+◌, ◌-◌, ◌≤◌, ◌<◌}
use mathlib.Core.Path.{◌≡◌, refl, sym, ap, ◌∙◌, subst}
use mathlib.Core.Bool.{cond}
use mathlib.Core.List.{List, [], ◌∷◌, ◌++◌}
use native.Mathlib.Omega.{arith}
use native.Mathlib.Decide.{dec_lt}
use lib.Dec.{ltb}
use lib.ListN.{length, get_or, set}
use lib.Seq.{get_or-set_same, get_or-set_other}
use borrow.Author.Tests.{lt-ltb, le-ltb}
use Rattle.runs.specs.Runs.{Run, run, runs, total, set_at, Other, Canon, Spare}
use Rattle.runs.specs.Edits.{Joined}
use Rattle.runs.specs.Positions.{deleted_at, inserted_at}
use Rattle.runs.specs.Gather.{gather}
use Rattle.runs.specs.Scan.{common_at}
use Rattle.runs.proofs.Laws.{runs_ext, total_sums, at_last}
use Rattle.runs.proofs.ScanLaws.{common_in}
use Rattle.runs.proofs.WindowLaws.{Looks, canon_back, inserted_window, deleted_window}

-- ---- the list in three parts: the runs behind run i, that run, and those before it
-- of the first n runs those behind run i
unfoldable behind : List ℕ → List ℕ → ℕ → ℕ → List Run
behind lens sets i zero = []
behind lens sets i (suc n) = cond (ltb i n) (run (get_or lens n 0) (get_or sets n 0) ∷ behind lens sets i n) []

module _ (lens sets : List ℕ) (i : ℕ) where
  split : (n : ℕ) → i < n → runs lens sets n ≡ behind lens sets i n ++ (run (get_or lens i 0) (get_or sets i 0) ∷ runs lens sets i)
  unfolding runs behind
  split zero h = absurd (omega arith)
  split (suc n) h =
      elim (dec_lt i n) [
        | yes k ↦ rw (lt-ltb i n k) (ap (λ (rs : List Run). run (get_or lens n 0) (get_or sets n 0) ∷ rs) (split n k))
        | no k ↦ let e : i ≡ n = omega arith in rw (le-ltb i n (omega arith), e) refl
      ]

-- another length for run i
module _ (lens sets : List ℕ) (i v : ℕ) where
  behind_set : (n : ℕ) → behind (set lens i v) sets i n ≡ behind lens sets i n
  unfolding behind
  behind_set zero = refl
  behind_set (suc n) =
      elim (dec_lt i n) [
        | yes k ↦
            let e = get_or-set_other lens i n v 0 (λ z. omega arith) in
            rw (lt-ltb i n k, e) (ap (λ (rs : List Run). run (get_or lens n 0) (get_or sets n 0) ∷ rs) (behind_set n))
        | no k ↦ rw (le-ltb i n (omega arith)) refl
      ]

  resized : (n : ℕ) → i < n → i < length lens → runs (set lens i v) sets n ≡ behind lens sets i n ++ (run v (get_or sets i 0) ∷ runs lens sets i)
  resized n h l =
      let a = runs_ext lens sets (set lens i v) sets i (λ j q. get_or-set_other lens i j v 0 (λ z. omega arith)) (λ j q. refl) in
      let b = get_or-set_same lens i v 0 l in
      split (set lens i v) sets i n h ∙ (λ j. behind_set n j ++ (run (b j) (get_or sets i 0) ∷ a j))

  -- no set changes
  pub resized_gather : (n : ℕ) → gather (runs (set lens i v) sets n) ≡ gather (runs lens sets n)
  unfolding runs gather
  resized_gather zero = refl
  resized_gather (suc n) = rw (resized_gather n) refl

  pub resized_spare : (n : ℕ) → i < n → Spare lens sets n → Spare (set lens i v) sets n
  unfolding Spare
  resized_spare n h s j k = (get_or-set_other lens i j v 0 (λ z. omega arith) ∙ (s j k).0, (s j k).1)

-- ---- one run by itself
-- the set at each of its positions
one_at : (l x p : ℕ) → p < l → set_at (run l x ∷ []) p ≡ x
unfolding total
one_at l x p h = at_last (run l x) [] p (omega arith) (omega arith)

one_looks : (s p : List Run) (l v x : ℕ) → 0 < l → 0 < v → Looks s (run l x ∷ []) (run v x ∷ []) p
unfolding total Other
one_looks s p l v x h g =
    record {
      some = omega arith;
      left = λ _. (omega arith, one_at v x 0 g ∙ sym (one_at l x 0 h));
      right = λ _. (omega arith, λ y o. o);
    }

one_canon : (v x : ℕ) → 0 < v → Canon (run v x ∷ [])
unfolding Canon Other
one_canon v x h = (h, tt, tt)

one_inserted : (l x pos k : ℕ) → 0 < l → pos ≤ l → Joined (total (run l x ∷ []) + k) (inserted_at pos k x (set_at (run l x ∷ []))) (run (l + k) x ∷ [])
unfolding total
one_inserted l x pos k h g =
    record {
      canon = one_canon (l + k) x (omega arith);
      all = omega arith;
      sets = λ p b.
          one_at (l + k) x p (omega arith)
          ∙ elim (dec_lt p pos) [
            | yes a ↦ rw (lt-ltb p pos a) (sym (one_at l x p (omega arith)))
            | no a ↦
                elim (dec_lt p (pos + k)) [
                  | yes d ↦ rw (le-ltb p pos (omega arith), lt-ltb p (pos + k) d) refl
                  | no d ↦ rw (le-ltb p pos (omega arith), le-ltb p (pos + k) (omega arith)) (sym (one_at l x (p - k) (omega arith)))
                ]
          ];
    }

one_deleted : (l x a b : ℕ) → a ≤ b → b ≤ l → b - a < l → Joined (total (run l x ∷ []) - (b - a)) (deleted_at a b (set_at (run l x ∷ []))) (run (l - (b - a)) x ∷ [])
unfolding total
one_deleted l x a b h g o =
    record {
      canon = one_canon (l - (b - a)) x (omega arith);
      all = omega arith;
      sets = λ p c.
          one_at (l - (b - a)) x p (omega arith)
          ∙ elim (dec_lt p a) [
            | yes d ↦ rw (lt-ltb p a d) (sym (one_at l x p (omega arith)))
            | no d ↦ rw (le-ltb p a (omega arith)) (sym (one_at l x (p + (b - a)) (omega arith)))
          ];
    }

-- ---- and among its neighbours
module _ (lens sets : List ℕ) (n i : ℕ) (c : Canon (runs lens sets n)) (h : i < n) (within : n ≤ length lens) where
  parted : Canon (behind lens sets i n ++ ((run (get_or lens i 0) (get_or sets i 0) ∷ []) ++ runs lens sets i))
  parted = subst Canon (split lens sets i n h) c

  pub run_some : 0 < get_or lens i 0
  unfolding Canon
  run_some = (canon_back (behind lens sets i n) (run (get_or lens i 0) (get_or sets i 0) ∷ runs lens sets i) parted).0

  one_total : total (run (get_or lens i 0) (get_or sets i 0) ∷ []) ≡ get_or lens i 0
  unfolding total
  one_total = omega arith

  -- what two of its positions have in common
  pub run_common : (pos : ℕ) → total (runs lens sets i) < pos → pos < total (runs lens sets i) + get_or lens i 0 → get_or sets i 0 ≡ common_at (runs lens sets n) pos
  run_common pos g k =
      sym
      (common_in lens sets n pos i (total (runs lens sets i)) (total (runs lens sets i) + get_or lens i 0)
      (record { within = omega arith; starts = total_sums lens sets i; reached = omega arith; inside = λ _. (k, refl); past = λ z. absurd (omega arith) }) h g)

  pub run_inserted : (pos l : ℕ) → total (runs lens sets i) ≤ pos → pos ≤ total (runs lens sets i) + get_or lens i 0
      → Joined (total (runs lens sets n) + l) (inserted_at pos l (get_or sets i 0) (set_at (runs lens sets n))) (runs (set lens i (get_or lens i 0 + l)) sets n)
  run_inserted pos l g k =
      let x = get_or sets i 0 in
      let b = get_or lens i 0 in
      let w = behind lens sets i n in
      let p = runs lens sets i in
      rw (split lens sets i n h, resized lens sets i (b + l) n h (omega arith))
      (inserted_window w (run b x ∷ []) (run (b + l) x ∷ []) p pos l x parted g (omega (arith, one_total))
      (one_inserted b x (pos - total p) l run_some (omega arith)) (one_looks w p b (b + l) x run_some (omega (arith, run_some))))

  pub run_deleted : (a e : ℕ) → total (runs lens sets i) ≤ a → a ≤ e → e ≤ total (runs lens sets i) + get_or lens i 0 → e - a < get_or lens i 0
      → Joined (total (runs lens sets n) - (e - a)) (deleted_at a e (set_at (runs lens sets n))) (runs (set lens i (get_or lens i 0 - (e - a))) sets n)
  run_deleted a e g k o q =
      let x = get_or sets i 0 in
      let b = get_or lens i 0 in
      let w = behind lens sets i n in
      let p = runs lens sets i in
      let d : e - total p - (a - total p) ≡ e - a = omega arith in
      rw (split lens sets i n h, resized lens sets i (b - (e - a)) n h (omega arith))
      (deleted_window w (run b x ∷ []) (run (b - (e - a)) x ∷ []) p a e parted g k (omega (arith, one_total))
      (rw d at (one_deleted b x (a - total p) (e - total p) (omega arith) (omega arith) (omega arith))) (one_looks w p b (b - (e - a)) x run_some (omega arith)))
