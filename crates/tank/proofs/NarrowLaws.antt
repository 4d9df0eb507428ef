-- A party's marks alone: the bits of the other's taken off every set, and what the tank then means.
use Prim.Native.Nat.{ℕ, zero, suc, ◌+◌, ◌*◌, ◌≤◌, ◌<◌, ◌^◌}
use mathlib.Core.Path.{◌≡◌, refl, sym, ap, ◌∙◌, fun_ext}
use mathlib.Core.Bool.{Bool, true, false, cond, ◌&&◌, not, false≢true, and-eq-true_iff}
use mathlib.Core.List.{List, [], ◌∷◌}
use native.Mathlib.Omega.{arith}
use native.Mathlib.Decide.{dec_lt}
use lib.Bits.{bit_and, and_le_r}
use lib.Dec.{ltb, leb}
use lib.ListN.{length}
use Rattle.styles.specs.declared.Identity.{Identity}
use Rattle.styles.specs.declared.Mark.{Mark}
use Rattle.styles.specs.declared.Stand.{Stand}
use Rattle.styles.specs.declared.Stand.TheVariants.{Before, Same, After}
use Rattle.styles.specs.Order.{stands, id_of, same_id, is_same}
use Rattle.styles.proofs.OrderLaws.{same_eq}
use Rattle.styles.specs.declared.Party.{Party}
use Rattle.styles.specs.declared.Party.TheVariants.{Plant, Lab}
use Rattle.styles.specs.Marks.{only, same_marks, same_party, is_of, of_party}
use Rattle.styles.specs.Bits.{pick, lacking_bits, MaskOf}
use Rattle.laws.proofs.Cases.{cond_by}
use borrow.Author.Tests.{ltb-false}
use Rattle.styles.proofs.Built.{as_bit, mask_of}
use Rattle.styles.proofs.MaskLaws.{mask_is}
use Rattle.styles.proofs.PartyLaws.{pick_lacks}
use Rattle.styles.proofs.UnionLaws.{pick_none}
use Rattle.styles.proofs.Unique.{mask_only}
use Rattle.runs.specs.Runs.{Run, run, runs, total, set_at, changing, Spare}
use Rattle.runs.specs.Edits.{Joined}
use Rattle.runs.specs.Positions.{altered_at, starts}
use Rattle.runs.proofs.SumLaws.{sum_least}
use Rattle.runs.proofs.Copies.{altered}
use Rattle.runs.proofs.Laws.{at_past}
use Rattle.runs.proofs.EditLaws.{drop_is, at_altered, canon_altered}
use Rattle.tank.specs.declared.Tank.{Tank}
use Rattle.tank.specs.Rules.{View, fresh_length, alike, runs_held, shown_to, other_of, marks_of}
use Rattle.tank.specs.State.{runs_of, table_of, view, Laid, Sound}
use Rattle.tank.specs.Steps.{CanNarrow, Trimmed}
use Rattle.tank.proofs.Counted.{at_inside}
use Rattle.tank.proofs.Unique.{runs_held_lem}
use Rattle.tank.proofs.Shape.{gather_small}
use Rattle.tank.proofs.AlterLaws.{fits_runs, alter_done}
use Rattle.tank.proofs.ViewLaws.{view_ext, view_altered, range_in, range_past}

-- there are two parties
two : (a b : Party) → not (same_party (other_of a) b) ≡ same_party a b
two Plant Plant = refl
two Plant Lab = refl
two Lab Plant = refl
two Lab Lab = refl

not_others : (who : Party) (ms : List Mark) → only (λ m. not (is_of (other_of who) m)) ms ≡ of_party who ms
not_others who ms = ap (λ (f : Mark → Bool). only f ms) (fun_ext (λ m. two who m.party))

-- the other's bits taken off a set leave the party's marks of it
pub shown_bits : (who : Party) (ms : List Mark) (gone : ℕ) → MaskOf (is_of (other_of who)) ms gone → (s : ℕ)
    → pick ms (lacking_bits s gone) ≡ of_party who (pick ms s)
shown_bits who ms gone mask s =
    ap (λ (g : ℕ). pick ms (lacking_bits s g)) (mask_only (is_of (other_of who)) ms gone mask)
    ∙ pick_lacks (is_of (other_of who)) ms s
    ∙ not_others who (pick ms s)

-- no mark is nobody's
none_of : (who : Party) (ms : List Mark) → ms ≡ [] → of_party who ms ≡ ms
unfolding only
none_of who ms e = rw e

-- ---- neighbours with equal sets have equal sets of a party, so that a party is shown no more runs than there are
shown_equal : (who : Party) (xs ys : List Mark) → same_marks xs ys ≡ true → same_marks (of_party who xs) (of_party who ys) ≡ true
unfolding same_marks only
shown_equal who [] [] e = refl
shown_equal who [] (y ∷ ys) e = absurd (false≢true e)
shown_equal who (x ∷ xs) [] e = absurd (false≢true e)
shown_equal who (x ∷ xs) (y ∷ ys) e =
    let p = (and-eq-true_iff (same_id (id_of x) (id_of y)) (same_marks xs ys)).0 e in
    let same = is_same_lem (stands (id_of x) (id_of y)) p.0 in
    let q : same_party who y.party ≡ same_party who x.party = ap (λ (i : Identity). same_party who i.party) (sym (same_eq (id_of x) (id_of y) same)) in
    go (same_party who x.party) refl p.0 (shown_equal who xs ys p.1) q
  where
    is_same_lem : (s : Stand) → is_same s ≡ true → s ≡ Same
    is_same_lem Before h = absurd (false≢true h)
    is_same_lem Same h = refl
    is_same_lem After h = absurd (false≢true h)

    go : (b : Bool) → same_party who x.party ≡ b → same_id (id_of x) (id_of y) ≡ true → same_marks (of_party who xs) (of_party who ys) ≡ true
        → same_party who y.party ≡ same_party who x.party
        → same_marks (cond (same_party who x.party) (x ∷ of_party who xs) (of_party who xs)) (cond (same_party who y.party) (y ∷ of_party who ys) (of_party who ys)) ≡ true
    go true a i r q = rw (q, a, i) r
    go false a i r q = rw (q, a) r

start_less : (f g : Bool) → (f ≡ true → g ≡ true) → cond g 0 1 ≤ cond f 0 1
start_less true g h = rw (h refl) (omega arith)
start_less false true h = omega arith
start_less false false h = omega arith

starts_less : (f g : ℕ → Bool) → ((p : ℕ) → f p ≡ true → g p ≡ true) → (p : ℕ) → starts g p ≤ starts f p
unfolding starts
starts_less f g h zero = omega arith
starts_less f g h (suc p) = start_less (f p) (g p) (h p)

pub shown_fewer : (who : Party) (v : View) → runs_held (shown_to who v) ≤ runs_held v
unfolding shown_to
shown_fewer who v =
    sum_least (starts (alike (λ p. of_party who (v.at p)))) (starts (alike v.at)) v.length
    (λ p _. starts_less (alike v.at) (alike (λ q. of_party who (v.at q))) (λ q. shown_equal who (v.at q) (v.at (suc q))) p)

module _ {t : Tank} (who : Party) (gone : ℕ) (h : CanNarrow t who gone) where
  -- the other's bits taken off a set take the other's marks off its marks
  drops : (s : ℕ) → pick (table_of t) (changing 0 gone s) ≡ of_party who (pick (table_of t) s)
  drops s =
      ap (pick (table_of t)) (drop_is gone s) ∙ shown_bits who (table_of t) gone h.mask s

  -- no set has got larger
  at_small : (p : ℕ) → p < total (altered (runs_of t) 0 t.length (changing 0 gone))
      → set_at (altered (runs_of t) 0 t.length (changing 0 gone)) p < 2 ^ t.marks
  at_small p k =
      let old = at_inside (runs_of t) t.marks p h.range.laid.inside in
      rw (at_altered (runs_of t) 0 t.length (changing 0 gone) h.range.up (fits_runs h.range) p)
      (cond_by (λ x. x < 2 ^ t.marks) (leb 0 p && ltb p t.length) (omega (arith, drop_is gone (set_at (runs_of t) p))) old)

  -- at every position, also past the length, where there is nothing
  everywhere : (p : ℕ) → altered_at 0 t.length (of_party who) (λ q. pick (table_of t) (set_at (runs_of t) q)) p ≡ of_party who (pick (table_of t) (set_at (runs_of t) p))
  everywhere p =
      elim (dec_lt p t.length) [
        | yes l ↦ range_in 0 t.length p _ _ (omega arith) l
        | no l ↦
            let sum = h.range.laid.sum in
            range_past 0 t.length p _ _ (omega arith)
            ∙ sym (none_of who _ (ap (pick (table_of t)) (at_past (runs_of t) p (omega arith)) ∙ pick_none (table_of t)))
      ]

  pub narrow_done : (lens sets : List ℕ) (n : ℕ) → Joined t.length (altered_at 0 t.length (changing 0 gone) (set_at (runs_of t))) (runs lens sets n)
      → Spare lens sets n
      → length lens ≡ 514 → length sets ≡ 514
      → let r : Tank = record { touched = t.touched; length = t.length; runs = n; marks = t.marks; lens = lens; sets = sets; table = t.table } in
      (Laid r) × (view r ≡ shown_to who (view t))
  unfolding shown_to view
  narrow_done lens sets n made sp l l' =
      let out = altered (runs_of t) 0 t.length (changing 0 gone) in
      let s =
      alter_done h.range (changing 0 gone) t.touched lens sets n made sp l l'
      (gather_small t.marks out (canon_altered (runs_of t) 0 t.length (changing 0 gone)) at_small)
      in (
        s.laid,
        s.is
            ∙ view_altered (runs_of t) 0 t.length (changing 0 gone) h.range.up (fits_runs h.range) (table_of t) (of_party who) t.touched drops
            ∙ view_ext _ _ (sym h.range.laid.sum) refl everywhere,
      )

fresh_at : (p : ℕ) → set_at (run fresh_length 0 ∷ []) p ≡ 0
unfolding set_at total
fresh_at p = cond_by (λ (x : ℕ). x ≡ 0) (ltb p 0) refl (cond_by (λ (x : ℕ). x ≡ 0) (ltb p (0 + fresh_length)) refl refl)

-- a test that no mark passes has no bits
no_step : (b : Bool) (m : Mark) (xs : List Mark) (k : ℕ) → (length xs ≡ 0 → k ≡ 0) → length (cond b (m ∷ xs) xs) ≡ 0 → k * 2 + as_bit b ≡ 0
no_step true m xs k r e = absurd (omega arith)
no_step false m xs k r e = omega (arith, r e)

no_mask : (f : Mark → Bool) (ms : List Mark) → length (only f ms) ≡ 0 → mask_of f ms ≡ 0
unfolding only mask_of
no_mask f [] e = refl
no_mask f (m ∷ ms) e = no_step (f m) m (only f ms) (mask_of f ms) (no_mask f ms) e

module _ {t : Tank} (s : Sound t) (who : Party) where
  -- an untouched tank has no marks, so each party is shown it as it is
  pub only_untouched : t.touched ≡ false → (Sound t) × (view t ≡ shown_to who (view t))
  unfolding shown_to view
  only_untouched e = (
    s,
    view_ext _ _ refl refl
        (λ p.
        sym (none_of who _ (ap (λ (rs : List Run). pick (table_of t) (set_at rs p)) (s.formed.fresh e) ∙ ap (pick (table_of t)) (fresh_at p) ∙ pick_none (table_of t)))),
  )

  -- so is one in which the other has no mark
  pub only_alone : (gone : ℕ) → gone ≡ 0 → MaskOf (is_of (other_of who)) (table_of t) gone → (Sound t) × (view t ≡ shown_to who (view t))
  unfolding shown_to view
  only_alone gone e m = (
    s,
    view_ext _ _ refl refl
        (λ p.
        let b : bit_and (set_at (runs_of t) p) gone ≤ gone = and_le_r (set_at (runs_of t) p) gone in
        let k : lacking_bits (set_at (runs_of t) p) gone ≡ set_at (runs_of t) p = omega arith in
        ap (pick (table_of t)) (sym k) ∙ shown_bits who (table_of t) gone m (set_at (runs_of t) p)),
  )

  pub only_unshared : ltb 0 (marks_of (other_of who) (table_of t)) ≡ false → view t ≡ shown_to who (view t)
  only_unshared e =
      (only_alone (mask_of (is_of (other_of who)) (table_of t)) (no_mask (is_of (other_of who)) (table_of t) (omega (arith, ltb-false 0 (marks_of (other_of who) (table_of t)) e))) (mask_is (is_of (other_of who)) (table_of t))).1

  pub can_narrow : (gone : ℕ) → MaskOf (is_of (other_of who)) (table_of t) gone → CanNarrow t who gone
  can_narrow gone m = record { range = record { laid = s.formed.laid; room = s.within; up = omega arith; fits = omega arith }; mask = m }

  pub narrow_touched : (u : Tank) → t.touched ≡ true → view u ≡ shown_to who (view t) → u.touched ≡ true
  unfolding shown_to view
  narrow_touched u e v = ap (λ (w : View). w.touched) v ∙ e

  pub only_done : (u r : Tank) → view u ≡ shown_to who (view t) → Trimmed u r → (Sound r) × (view r ≡ shown_to who (view t))
  only_done u r v d =
      let e : view r ≡ shown_to who (view t) = d.is ∙ v in
      let few : runs_held (shown_to who (view t)) ≤ runs_held (view t) = shown_fewer who (view t) in (
        record {
          formed = d.formed;
          within = omega (arith, few, ap runs_held e, runs_held_lem d.formed.laid, runs_held_lem s.formed.laid, s.within);
        },
        e,
      )
