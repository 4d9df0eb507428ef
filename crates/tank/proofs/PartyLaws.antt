-- What a party is shown after an edit hangs on the edit and on what it was shown before, and on nothing else: the other party's marks
-- are not among it.
use Prim.Native.Nat.{ℕ, zero, suc, ◌+◌, ◌-◌}
use mathlib.Core.Path.{◌≡◌, refl, sym, ap, ◌∙◌}
use mathlib.Core.Bool.{Bool, true, false, cond}
use mathlib.Core.List.{List, []}
use lib.Dec.{eqb, ltb}
use Rattle.laws.proofs.Cases.{cond_ap, cond_same}
use Rattle.styles.specs.declared.Identity.{Identity}
use Rattle.styles.specs.declared.Mark.{Mark}
use Rattle.styles.specs.declared.Party.{Party}
use Rattle.styles.specs.Marks.{Sorted, insert_mark, remove_mark, common, only, same_party, is_of, of_party}
use Rattle.styles.proofs.PartyLaws.{seen_remove, unseen_remove, seen_common, seen_member, seen_insert, unseen_insert}
use Rattle.runs.specs.Positions.{within, deleted_at, inserted_at, stretch_to}
use Rattle.tank.specs.Rules.{View, after_annotate, inherited, for_insert, after_insert, after_delete, back_from, stripped, after_remove, Edit, annotating, inserting, deleting, removing, shown_to, after}
use Rattle.tank.proofs.ViewLaws.{view_ext}

-- the marks at every position are sorted
abbrev pub SortedAt : View → Type 0
SortedAt v = (p : ℕ) → Sorted (v.at p)

module _ (who : Party) where
  -- the test of an identity that a party's marks pass
  abbrev seen : Identity → Bool
  seen i = same_party who i.party

  -- ---- what the party's view becomes
  -- an annotate of the other's touches the tank, and a removal of the other's is not seen
  unfoldable pub seen_after : Edit → View → View
  seen_after (annotating a b m) w =
      cond (is_of who m) (after_annotate a b m w) (record { length = w.length; touched = true; at = w.at })
  seen_after (inserting by pos len) w = after_insert pos len w
  seen_after (deleting by a b) w = after_delete a b w
  seen_after (removing id last) w = cond (seen id) (after_remove id last w) w

  -- ---- edit by edit
  seen_annotate : (a b : ℕ) (m : Mark) (v : View) → SortedAt v → is_of who m ≡ true → shown_to who (after_annotate a b m v) ≡ after_annotate a b m (shown_to who v)
  unfolding shown_to after_annotate
  seen_annotate a b m v s e =
      view_ext _ _ refl refl
      (λ p.
      cond_ap (of_party who) (within a b p) (insert_mark m (v.at p)) (v.at p)
      ∙ ap (λ (x : List Mark). cond (within a b p) x (of_party who (v.at p))) (seen_insert seen m e (v.at p) (s p)))

  unseen_annotate : (a b : ℕ) (m : Mark) (v : View) → is_of who m ≡ false
      → shown_to who (after_annotate a b m v) ≡ record { length = v.length; touched = true; at = λ p. of_party who (v.at p) }
  unfolding shown_to after_annotate
  unseen_annotate a b m v e =
      view_ext _ _ refl refl
      (λ p.
      cond_ap (of_party who) (within a b p) (insert_mark m (v.at p)) (v.at p)
      ∙ ap (λ (x : List Mark). cond (within a b p) x (of_party who (v.at p))) (unseen_insert seen m e (v.at p))
      ∙ cond_same (within a b p))

  seen_delete : (a b : ℕ) (v : View) → shown_to who (after_delete a b v) ≡ after_delete a b (shown_to who v)
  unfolding shown_to after_delete
  seen_delete a b v = go v.touched refl
    where
      go : (t : Bool) → v.touched ≡ t
          → shown_to who (cond t (record { length = v.length - (b - a); touched = true; at = deleted_at a b v.at }) v)
          ≡ cond t (record { length = v.length - (b - a); touched = true; at = deleted_at a b (λ p. of_party who (v.at p)) }) (shown_to who v)
      go true e = view_ext _ _ refl refl (λ p. cond_ap (of_party who) (ltb p a) (v.at p) (v.at (p + (b - a))))
      go false e = refl

  inherits : (pos : ℕ) (v : View) → of_party who (inherited pos v) ≡ inherited pos (shown_to who v)
  unfolding shown_to inherited only
  inherits pos v =
      cond_ap (of_party who) (eqb pos 0) [] _
      ∙ ap (cond (eqb pos 0) [])
      (cond_ap (of_party who) (eqb pos v.length) [] (common (v.at (pos - 1)) (v.at pos))
      ∙ ap (cond (eqb pos v.length) []) (seen_common seen (v.at (pos - 1)) (v.at pos)))

  -- what an insertion answers a party
  pub answer_seen : (pos : ℕ) (v : View) → of_party who (for_insert pos v) ≡ for_insert pos (shown_to who v)
  unfolding shown_to for_insert only
  answer_seen pos v =
      cond_ap (of_party who) v.touched (inherited pos v) []
      ∙ ap (λ (x : List Mark). cond v.touched x []) (inherits pos v)

  seen_inserted : (pos len : ℕ) (v : View) → shown_to who (after_insert pos len v) ≡ after_insert pos len (shown_to who v)
  unfolding shown_to after_insert
  seen_inserted pos len v = go v.touched refl
    where
      go : (t : Bool) → v.touched ≡ t
          → shown_to who (cond t (record { length = v.length + len; touched = true; at = inserted_at pos len (inherited pos v) v.at }) v)
          ≡ cond t (record { length = v.length + len; touched = true; at = inserted_at pos len (inherited pos (shown_to who v)) (λ p. of_party who (v.at p)) }) (shown_to who v)
      go true e =
          view_ext _ _ refl refl
          (λ p.
          cond_ap (of_party who) (ltb p pos) (v.at p) _
          ∙ ap (cond (ltb p pos) (of_party who (v.at p)))
          (cond_ap (of_party who) (ltb p (pos + len)) (inherited pos v) (v.at (p - len))
          ∙ ap (λ (x : List Mark). cond (ltb p (pos + len)) x (of_party who (v.at (p - len)))) (inherits pos v)))
      go false e = refl

  stretch_same : (f g : ℕ → Bool) → ((p : ℕ) → f p ≡ g p) → (n : ℕ) → stretch_to f n ≡ stretch_to g n
  unfolding stretch_to
  stretch_same f g h zero = refl
  stretch_same f g h (suc n) = rw (h n, stretch_same f g h n)

  pub back_seen : (id : Identity) (last : ℕ) (v : View) → seen id ≡ true → back_from id last (shown_to who v) ≡ back_from id last v
  unfolding shown_to back_from
  back_seen id last v e = stretch_same _ _ (λ p. seen_member seen id e (v.at p)) (last + 1)

  seen_removed : (id : Identity) (last : ℕ) (v : View) → seen id ≡ true → shown_to who (after_remove id last v) ≡ after_remove id last (shown_to who v)
  unfolding shown_to after_remove stripped
  seen_removed id last v e =
      let n = back_seen id last v e in
      view_ext _ _ refl refl
      (λ p.
      cond_ap (of_party who) (within (back_from id last v) (last + 1) p) (remove_mark id (v.at p)) (v.at p)
      ∙ ap (λ (x : List Mark). cond (within (back_from id last v) (last + 1) p) x (of_party who (v.at p))) (seen_remove seen id (v.at p))
      ∙ ap (λ (k : ℕ). cond (within k (last + 1) p) (remove_mark id (of_party who (v.at p))) (of_party who (v.at p))) (sym n))

  unseen_removed : (id : Identity) (last : ℕ) (v : View) → seen id ≡ false → shown_to who (after_remove id last v) ≡ shown_to who v
  unfolding shown_to after_remove stripped
  unseen_removed id last v e =
      view_ext _ _ refl refl
      (λ p.
      cond_ap (of_party who) (within (back_from id last v) (last + 1) p) (remove_mark id (v.at p)) (v.at p)
      ∙ ap (λ (x : List Mark). cond (within (back_from id last v) (last + 1) p) x (of_party who (v.at p))) (unseen_remove seen id e (v.at p))
      ∙ cond_same (within (back_from id last v) (last + 1) p))

  -- ---- every edit
  pub seen_after_lem : (e : Edit) (v : View) → SortedAt v → shown_to who (after e v) ≡ seen_after e (shown_to who v)
  unfolding after seen_after shown_to
  seen_after_lem (annotating a b m) v s = go (is_of who m) refl
    where
      go : (t : Bool) → is_of who m ≡ t
          → shown_to who (after_annotate a b m v) ≡ cond t (after_annotate a b m (shown_to who v)) (record { length = v.length; touched = true; at = λ p. of_party who (v.at p) })
      go true q = seen_annotate a b m v s q
      go false q = unseen_annotate a b m v q
  seen_after_lem (inserting by pos len) v s = seen_inserted pos len v
  seen_after_lem (deleting by a b) v s = seen_delete a b v
  seen_after_lem (removing id last) v s = go (seen id) refl
    where
      go : (t : Bool) → seen id ≡ t → shown_to who (after_remove id last v) ≡ cond t (after_remove id last (shown_to who v)) (shown_to who v)
      go true q = seen_removed id last v q
      go false q = unseen_removed id last v q

  -- so two tanks of which the party is shown the same show it the same after the same edit
  pub seen_same : (e : Edit) (u v : View) → SortedAt u → SortedAt v → shown_to who u ≡ shown_to who v → shown_to who (after e u) ≡ shown_to who (after e v)
  seen_same e u v s t q = seen_after_lem e u s ∙ ap (seen_after e) q ∙ sym (seen_after_lem e v t)
