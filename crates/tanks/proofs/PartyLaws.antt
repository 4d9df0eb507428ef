-- What a party is shown of its own marks does not hang on the other's, while the same calls are accepted.
use Prim.Native.Nat.{ℕ, ◌<◌}
use mathlib.Core.Path.{◌≡◌, refl, sym, ap, ap₂, ◌∙◌, subst}
use mathlib.Core.Bool.{Bool, true, false, cond, false≢true}
use mathlib.Core.List.{List, [], ◌∷◌}
use native.Mathlib.Omega.{arith}
use native.Mathlib.Decide.{dec_lt}
use borrow.Author.Tests.{le-leb}
use lib.Dec.{eqb, ltb}
use Rattle.laws.proofs.Cases.{cond_by}
use lib.ListN.{length, length-set}
use lib.Seq.{get_or-set_same, get_or-set_other}
use Rattle.styles.specs.declared.Identity.{Identity}
use Rattle.styles.specs.declared.Party.{Party}
use Rattle.styles.specs.declared.Mark.{Mark}
use Rattle.styles.specs.Marks.{same_party, is_of, of_party}
use Rattle.tank.specs.Rules.{View, fresh_view, Edit, annotating, inserting, removing, after_annotate, after_remove, shown_to, made_by, after, full, refusal, passes_share, runs_held, for_insert, back_from}
use Rattle.tank.proofs.PartyLaws.{SortedAt, seen_after, seen_after_lem, seen_same, back_seen}
use Rattle.tank.proofs.ViewLaws.{view_ext}
use Rattle.tank.proofs.OwnRoom.{NotEight, not_8}
use Rattle.tanks.specs.House.{House, tank_at, held, no_tank, own_at, refusal_at, with_tank, after_at, inserted_set_at, removed_first_at, Call, after_all}
use Rattle.tanks.specs.Settings.{share_of, limit_of, claims, held_after, judgement}
use Rattle.tanks.specs.declared.Tanks.{Tanks}
use Rattle.tanks.specs.Pool.{meaning, Sound}
use Rattle.tanks.proofs.MeaningLaws.{tanks_length, tank_past}
use Rattle.tanks.specs.Parties.{Alike, SameAccepted}
use Rattle.tanks.proofs.SettingLaws.{at_each}
use Rattle.tanks.proofs.Sorted.{edit_sorted, sets_sorted, fresh_sorted}

-- eight tanks whose sets are sorted
pub record Orderly (h : House) : Type 0 where
  pub eight : length h.tanks ≡ 8
  pub sorted : (t : ℕ) → SortedAt (tank_at h t)

-- an accepted call is on one of the eight
in_eight : (h : House) (t : ℕ) (e : Edit) → eqb (refusal_at h t e) 0 ≡ true → t < 8
unfolding refusal_at
in_eight h t e q =
    elim (dec_lt t 8) [
      | yes l ↦ l
      | no l ↦ let z : false ≡ true = rw (le-leb 8 t (omega arith)) at q in absurd (false≢true z)
    ]

-- a call leaves the sets sorted
orderly_after : (h : House) (t : ℕ) (e : Edit) → Orderly h → Orderly (after_at h t e)
unfolding after_at
orderly_after h t e o = go (eqb (refusal_at h t e) 0) refl
  where
    go : (b : Bool) → eqb (refusal_at h t e) 0 ≡ b → Orderly (cond b (with_tank h t (after e (tank_at h t))) h)
    go false q = o
    go true q =
        record {
          eight = length-set h.tanks t (after e (tank_at h t)) ∙ o.eight;
          sorted = λ u.
              at_each (λ k. SortedAt (tank_at (with_tank h t (after e (tank_at h t))) k)) t u
              (subst SortedAt (sym (get_or-set_same h.tanks t (after e (tank_at h t)) fresh_view (omega (arith, o.eight, in_eight h t e q))))
              (edit_sorted e (tank_at h t) (o.sorted t)))
              (λ ne. subst SortedAt (sym (get_or-set_other h.tanks t u (after e (tank_at h t)) fresh_view ne)) (o.sorted u));
        }

module _ (who : Party) (g h : House) (og : Orderly g) (oh : Orderly h) (alike : Alike who g h) (t : ℕ) (e : Edit) where
  -- one call, accepted in both or refused in both
  pub alike_after : eqb (refusal_at g t e) 0 ≡ eqb (refusal_at h t e) 0 → Alike who (after_at g t e) (after_at h t e)
  unfolding after_at
  alike_after same u = go (eqb (refusal_at g t e) 0) (eqb (refusal_at h t e) 0) refl refl same
    where
      go : (a b : Bool) → eqb (refusal_at g t e) 0 ≡ a → eqb (refusal_at h t e) 0 ≡ b → a ≡ b
          → shown_to who (tank_at (cond a (with_tank g t (after e (tank_at g t))) g) u) ≡ shown_to who (tank_at (cond b (with_tank h t (after e (tank_at h t))) h) u)
      go true true p q r =
          at_each (λ k. shown_to who (tank_at (with_tank g t (after e (tank_at g t))) k) ≡ shown_to who (tank_at (with_tank h t (after e (tank_at h t))) k)) t u
          (ap (shown_to who) (get_or-set_same g.tanks t _ fresh_view (omega (arith, og.eight, in_eight g t e p)))
          ∙ seen_same who e (tank_at g t) (tank_at h t) (og.sorted t) (oh.sorted t) (alike t)
          ∙ sym (ap (shown_to who) (get_or-set_same h.tanks t _ fresh_view (omega (arith, oh.eight, in_eight h t e q)))))
          (λ ne.
          ap (shown_to who) (get_or-set_other g.tanks t u _ fresh_view ne)
          ∙ alike u
          ∙ sym (ap (shown_to who) (get_or-set_other h.tanks t u _ fresh_view ne)))
      go false false p q r = alike u
      go true false p q r = absurd (let z : ◌≡◌ {A = ℕ} 0 1 = cc in omega arith)
      go false true p q r = absurd (let z : ◌≡◌ {A = ℕ} 0 1 = cc in omega arith)

-- an annotate of the other's leaves a touched tank's view, and a removal any
unseen_view : (who : Party) (a b : ℕ) (m : Mark) (v : View) → is_of who m ≡ false → v.touched ≡ true → seen_after who (annotating a b m) (shown_to who v) ≡ shown_to who v
unfolding seen_after shown_to
unseen_view who a b m v other touched =
    ap (λ (c : Bool). cond c (after_annotate a b m (shown_to who v)) (record { length = v.length; touched = true; at = λ p. of_party who (v.at p) })) other
    ∙ view_ext _ _ refl (sym touched) (λ p. refl)

unseen_less : (who : Party) (id : Identity) (last : ℕ) (v : View) → same_party who id.party ≡ false → seen_after who (removing id last) (shown_to who v) ≡ shown_to who v
unfolding seen_after
unseen_less who id last v other = ap (λ (c : Bool). cond c (after_remove id last (shown_to who v)) (shown_to who v)) other

-- ---- the same calls with the same acceptances
pub noninterference : (who : Party) (cs : List Call) (g h : House) → Orderly g → Orderly h → Alike who g h → SameAccepted g h cs
    → Alike who (after_all g cs) (after_all h cs)
unfolding after_all SameAccepted
noninterference who [] g h og oh alike same = alike
noninterference who (c ∷ cs) g h og oh alike same =
    noninterference who cs (after_at g c.tank c.edit) (after_at h c.tank c.edit)
    (orderly_after g c.tank c.edit og)
    (orderly_after h c.tank c.edit oh)
    (alike_after who g h og oh alike c.tank c.edit same.0)
    same.1

-- ---- what the other party marks is not seen
module _ (who : Party) (h : House) (o : Orderly h) (t : ℕ) where
  -- an edit that leaves what the party is shown of its tank leaves what it is shown of every tank
  leaves : (e : Edit) → shown_to who (after e (tank_at h t)) ≡ shown_to who (tank_at h t) → Alike who (after_at h t e) h
  unfolding after_at
  leaves e same u = go (eqb (refusal_at h t e) 0) refl
    where
      go : (b : Bool) → eqb (refusal_at h t e) 0 ≡ b → shown_to who (tank_at (cond b (with_tank h t (after e (tank_at h t))) h) u) ≡ shown_to who (tank_at h u)
      go false q = refl
      go true q =
          at_each (λ k. shown_to who (tank_at (with_tank h t (after e (tank_at h t))) k) ≡ shown_to who (tank_at h k)) t u
          (ap (shown_to who) (get_or-set_same h.tanks t _ fresh_view (omega (arith, o.eight, in_eight h t e q))) ∙ same)
          (λ ne. ap (shown_to who) (get_or-set_other h.tanks t u _ fresh_view ne))

  -- a mark of the other's, in a tank that is touched already
  pub unseen_annotate : (a b : ℕ) (m : Mark) → is_of who m ≡ false → (tank_at h t).touched ≡ true → Alike who (after_at h t (annotating a b m)) h
  unseen_annotate a b m other touched = leaves (annotating a b m) (seen_after_lem who (annotating a b m) (tank_at h t) (o.sorted t) ∙ as_it_was)
    where
      as_it_was : seen_after who (annotating a b m) (shown_to who (tank_at h t)) ≡ shown_to who (tank_at h t)
      as_it_was = unseen_view who a b m (tank_at h t) other touched

  -- one taken off
  pub unseen_removal : (id : Identity) (last : ℕ) → same_party who id.party ≡ false → Alike who (after_at h t (removing id last)) h
  unseen_removal id last other = leaves (removing id last) (seen_after_lem who (removing id last) (tank_at h t) (o.sorted t) ∙ unseen_less who id last (tank_at h t) other)

-- ---- what the edits themselves answer
-- an insertion's set
pub set_alike : (who : Party) (g h : House) → Alike who g h → (t pos len : ℕ)
    → eqb (refusal_at g t (inserting who pos len)) 0 ≡ eqb (refusal_at h t (inserting who pos len)) 0
    → inserted_set_at g t who pos len ≡ inserted_set_at h t who pos len
unfolding inserted_set_at
set_alike who g h alike t pos len same = ap₂ (λ (b : Bool) (v : View). cond b (for_insert pos v) []) same (alike t)

-- a removal's first position, of an identity of the party's
pub first_alike : (who : Party) (g h : House) → Alike who g h → (t : ℕ) (id : Identity) (last : ℕ) → same_party who id.party ≡ true
    → eqb (refusal_at g t (removing id last)) 0 ≡ eqb (refusal_at h t (removing id last)) 0
    → removed_first_at g t id last ≡ removed_first_at h t id last
unfolding removed_first_at
first_alike who g h alike t id last own same =
    ap₂ (λ (b : Bool) (n : ℕ). cond b n 0) same
    (sym (back_seen who id last (tank_at g t) own) ∙ ap (back_from id last) (alike t) ∙ back_seen who id last (tank_at h t) own)

-- ---- a sound state's house is orderly, so that all this is said of it
pub orderly_sound : (s : Tanks) → Sound s → Orderly (meaning s)
orderly_sound s ok = record {
  eight = tanks_length s;
  sorted = λ t p.
      elim (dec_lt t 8) [
        | yes l ↦ sets_sorted s ok t p l
        | no l ↦ subst SortedAt (sym (tank_past s t (omega arith))) fresh_none p
      ];
}
  where
    fresh_none : SortedAt fresh_view
    fresh_none p = fresh_sorted p

-- ---- 8 is not given where the tank has room for the mark
pub not_8_at : (h : House) (t : ℕ) (e : Edit) → full e (tank_at h t) ≡ false → NotEight (refusal_at h t e)
unfolding refusal_at judgement
not_8_at h t e f =
    let n = runs_held (after e (tank_at h t)) in
    cond_by NotEight (no_tank t) (λ z. omega arith)
    (cond_by NotEight (eqb (own_at h t e) 0)
    (cond_by NotEight (ltb (limit_of h.settings t) n) (λ z. omega arith)
    (cond_by NotEight (ltb 512 (claims h.settings (held_after (held h) t n) 8)) (λ z. omega arith) (λ z. omega arith)))
    (cond_by NotEight (eqb (refusal e (tank_at h t)) 0)
    (cond_by NotEight (passes_share (made_by e) (share_of h.settings t) (held h t) n) (λ z. omega arith) (λ z. omega arith))
    (not_8 e (tank_at h t) f)))
