-- Change request 12, a late fill taken back: on a touched tank an insertion and then the deletion of the positions that it put in leave the tank as it was.
use Prim.Native.Nat.{ℕ, ◌+◌, ◌-◌, ◌<◌}
use mathlib.Core.Path.{◌≡◌, refl, sym, ap, ◌∙◌}
use mathlib.Core.Bool.{Bool, true, false, cond}
use native.Mathlib.Omega.{arith}
use native.Mathlib.Decide.{dec_lt}
use borrow.Author.Tests.{lt-ltb, le-ltb, lt-leb, eqb-false, ltb-false}
use Rattle.styles.specs.declared.Party.{Party}
use Rattle.runs.specs.Positions.{inserted_at, deleted_at}
use Rattle.tank.specs.Rules.{View, inherited, after_insert, after_delete, inserting, deleting, after, barred, empty, over, long, own_number, clashes, full, refusal}
use Rattle.tank.proofs.Sequences.{accepted_open, accepted_fits}
use Rattle.tank.proofs.ViewLaws.{view_ext}

-- what stood at each position stands there again
back_at : {A : Type 0} (pos len : ℕ) (x : A) (at : ℕ → A) (p : ℕ) → deleted_at pos (pos + len) (inserted_at pos len x at) p ≡ at p
back_at pos len x at p =
    elim (dec_lt p pos) [
      | yes l ↦ rw (lt-ltb p pos l) refl
      | no l ↦
          let e : p + (pos + len - pos) ≡ p + len = omega arith in
          let g : p + len - len ≡ p = omega arith in
          rw (le-ltb p pos (omega arith), e, le-ltb (p + len) pos (omega arith), le-ltb (p + len) (pos + len) (omega arith), g) refl
    ]

module _ (who : Party) (pos len : ℕ) (v : View) (touched : v.touched ≡ true) where
  filled : View
  filled = record { length = v.length + len; touched = true; at = inserted_at pos len (inherited pos v) v.at }

  is_filled : after (inserting who pos len) v ≡ filled
  unfolding filled after after_insert
  is_filled = ap (λ (b : Bool). cond b (record { length = v.length + len; touched = true; at = inserted_at pos len (inherited pos v) v.at }) v) touched

  -- the very same tank: its length, touched, and the marks at every position
  pub taken_back : after (deleting who pos (pos + len)) (after (inserting who pos len) v) ≡ v
  unfolding filled after after_delete
  taken_back =
      ap (after (deleting who pos (pos + len))) is_filled
      ∙ view_ext (after_delete pos (pos + len) filled) v (omega arith) (sym touched) (back_at pos len (inherited pos v) v.at)

  filled_free : barred (inserting who pos len) ≡ false → empty (inserting who pos len) ≡ false → over (inserting who pos len) v ≡ false → refusal (deleting who pos (pos + len)) filled ≡ 0
  unfolding filled refusal barred empty over long own_number clashes full
  filled_free free some fits =
      let some' = eqb-false len 0 some in
      let fits' = ltb-false v.length pos fits in
      let l : pos < pos + len = elim (dec_lt 0 len) [ yes g ↦ omega arith | no g ↦ absurd (some' (omega arith)) ] in
      rw (free, lt-leb (pos + len) pos l, le-ltb (v.length + len) (pos + len) (omega arith)) refl

  -- and the deletion is refused nothing
  pub back_accepted : refusal (inserting who pos len) v ≡ 0 → refusal (deleting who pos (pos + len)) (after (inserting who pos len) v) ≡ 0
  back_accepted z =
      let f = accepted_fits (inserting who pos len) v z in
      ap (refusal (deleting who pos (pos + len))) is_filled ∙ filled_free (accepted_open (inserting who pos len) v z) f.0 f.1
