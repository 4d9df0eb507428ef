-- The rules computed on runs over a sorted table of marks: where a tank has more positions than can be looked at, its runs can be.
use Prim.Native.Nat.{ℕ, ◌+◌, ◌<◌}
use mathlib.Core.Path.{◌≡◌, refl, sym, ap, ◌∙◌}
use mathlib.Core.Bool.{Bool, true, false, cond, ◌&&◌, not, and-eq-true_iff}
use mathlib.Core.List.{List}
use native.Mathlib.Omega.{arith}
use lib.Dec.{ltb, leb}
use borrow.Author.Tests.{ltb-false, leb-false, not-true}
use Rattle.styles.specs.declared.Identity.{Identity}
use Rattle.styles.specs.declared.Mark.{Mark}
use Rattle.styles.specs.Order.{id_of}
use Rattle.styles.specs.Marks.{Sorted, member, place_of, insert_mark, remove_mark}
use Rattle.styles.specs.Bits.{pick, with_bit}
use Rattle.runs.specs.Runs.{Run, total, set_at, Canon, changing}
use Rattle.runs.proofs.Copies.{adding, altered, deleted, inserted}
use Rattle.runs.specs.Gather.{gather}
use Rattle.runs.specs.Scan.{common_at}
use Rattle.runs.proofs.EditLaws.{canon_altered, canon_deleted, canon_inserted}
use Rattle.runs.proofs.ScanLaws.{stretch_le}
use Rattle.tank.specs.Rules.{Edit, annotating, inserting, deleting, removing, after_annotate, after_insert, after_delete, stripped, after_remove, back_from, after, barred, empty, over, long, mark_number, own_number, first_refusal, crowded, clash, clashes, full, refusal}
use Rattle.tank.specs.State.{view_of}
use Rattle.tank.proofs.Carried.{gathered_is, any_clash}
use Rattle.tank.proofs.GrowLaws.{common_inherited}
use Rattle.tank.proofs.LayLaws.{adds_mark}
use Rattle.tank.proofs.RoomLaws.{place_in, place_id, known_is}
use Rattle.tank.proofs.Sequences.{accepted_fits}
use Rattle.tank.proofs.StripLaws.{drops_mark}
use Rattle.tank.proofs.ViewLaws.{view_altered, view_inserted, view_deleted}

-- the bit of an identity's place in the table
abbrev bit_of : List Mark → Identity → ℕ
bit_of ms id = with_bit (place_of id ms) 0

-- the edit's mark is one of the table's
unfoldable pub known : List Mark → Edit → Bool
known ms (annotating a b m) = member (id_of m) ms && not (clash m ms)
known ms (inserting by pos len) = true
known ms (deleting by a b) = true
known ms (removing id last) = member id ms

-- the refusal: the marks carried are those of all runs together
unfoldable pub number_on : List Mark → Edit → Bool → List Run → ℕ
number_on ms (annotating a b m) t rs =
    cond (leb b a) 3
    (cond (ltb (total rs) b) 4
    (first_refusal (mark_number m)
    (cond (clash m (pick ms (gather rs))) 7
    (cond (not (member (id_of m) (pick ms (gather rs))) && crowded m (pick ms (gather rs))) 8 0))))
number_on ms (inserting by pos len) t rs = refusal (inserting by pos len) (view_of t (total rs) ms rs)
number_on ms (deleting by a b) t rs = refusal (deleting by a b) (view_of t (total rs) ms rs)
number_on ms (removing id last) t rs = refusal (removing id last) (view_of t (total rs) ms rs)

-- the runs after an accepted edit, and whether the tank is touched then
unfoldable pub runs_after : List Mark → Edit → Bool → List Run → List Run
runs_after ms (annotating a b m) t rs = altered rs a b (adding (bit_of ms (id_of m)))
runs_after ms (inserting by pos len) t rs = cond t (inserted rs pos len (common_at rs pos)) rs
runs_after ms (deleting by a b) t rs = cond t (deleted rs a b) rs
runs_after ms (removing id last) t rs =
    altered rs (back_from id last (view_of t (total rs) ms rs)) (last + 1) (changing 0 (bit_of ms id))

unfoldable pub touched_after : Edit → Bool → Bool
touched_after (annotating a b m) t = true
touched_after (inserting by pos len) t = t
touched_after (deleting by a b) t = t
touched_after (removing id last) t = t

-- no run is empty and neighbours differ, whatever the edit
pub canon_after : (ms : List Mark) (e : Edit) (t : Bool) (rs : List Run) → Canon rs → Canon (runs_after ms e t rs)
unfolding runs_after
canon_after ms (annotating a b m) t rs c = canon_altered rs a b (adding (bit_of ms (id_of m)))
canon_after ms (inserting by pos len) true rs c = canon_inserted rs pos len (common_at rs pos)
canon_after ms (inserting by pos len) false rs c = c
canon_after ms (deleting by a b) true rs c = canon_deleted rs a b
canon_after ms (deleting by a b) false rs c = c
canon_after ms (removing id last) t rs c = canon_altered rs _ (last + 1) (changing 0 (bit_of ms id))

module _ (ms : List Mark) (sorted : Sorted ms) where
  pub refusal_on : (e : Edit) (t : Bool) (rs : List Run) → Canon rs → refusal e (view_of t (total rs) ms rs) ≡ number_on ms e t rs
  unfolding refusal number_on barred empty over long own_number clashes full
  refusal_on (annotating a b m) t rs c =
      let all = gathered_is ms sorted rs c in
      rw (any_clash m ms (set_at rs) (total rs) (gather rs) sorted all, all)
  refusal_on (inserting by pos len) t rs c = refl
  refusal_on (deleting by a b) t rs c = refl
  refusal_on (removing id last) t rs c = refl

  removed_on : (id : Identity) (last : ℕ) (t : Bool) (rs : List Run) → member id ms ≡ true → last < total rs
      → after_remove id last (view_of t (total rs) ms rs)
      ≡ view_of t (total (runs_after ms (removing id last) t rs)) ms (runs_after ms (removing id last) t rs)
  unfolding after_remove stripped runs_after back_from
  removed_on id last t rs k h =
      let v = view_of t (total rs) ms rs in
      sym
      (view_altered rs (back_from id last v) (last + 1) (changing 0 (bit_of ms id)) (stretch_le (λ p. member id (v.at p)) (last + 1)) (omega arith) ms (remove_mark id) t
      (λ s.
      drops_mark ms (place_of id ms) sorted (place_in ms id sorted k) s ∙ ap (λ i. remove_mark i (pick ms s)) (place_id ms id sorted k)))

  after_on : (e : Edit) (t : Bool) (rs : List Run) → known ms e ≡ true → empty e ≡ false → over e (view_of t (total rs) ms rs) ≡ false
      → after e (view_of t (total rs) ms rs) ≡ view_of (touched_after e t) (total (runs_after ms e t rs)) ms (runs_after ms e t rs)
  unfolding known empty over after after_annotate after_remove runs_after touched_after after_insert after_delete
  after_on (annotating a b m) t rs k n o =
      let j = (and-eq-true_iff (member (id_of m) ms) (not (clash m ms))).0 k in
      let up = leb-false b a n in
      let same = known_is m ms sorted j.0 (not-true (clash m ms) j.1) in
      sym
      (view_altered rs a b (adding (bit_of ms (id_of m))) (omega arith) (ltb-false (total rs) b o) ms (insert_mark m) true
      (λ s. adds_mark ms (place_of (id_of m) ms) sorted (place_in ms (id_of m) sorted j.0) s ∙ ap (λ x. insert_mark x (pick ms s)) same))
  after_on (inserting by pos len) true rs k n o =
      let fits = ltb-false (total rs) pos o in
      sym (view_inserted rs pos len (common_at rs pos) fits ms (common_inherited rs pos fits ms sorted))
  after_on (inserting by pos len) false rs k n o = refl
  after_on (deleting by a b) true rs k n o = let up = leb-false b a n in sym (view_deleted rs a b (omega arith) (ltb-false (total rs) b o) ms)
  after_on (deleting by a b) false rs k n o = refl
  after_on (removing id last) t rs k n o = removed_on id last t rs k (leb-false (total rs) last o)

  -- an accepted edit of runs is the edit of what they mean
  pub call_on : (e : Edit) (t : Bool) (rs : List Run) → Canon rs → known ms e ≡ true → number_on ms e t rs ≡ 0
      → after e (view_of t (total rs) ms rs) ≡ view_of (touched_after e t) (total (runs_after ms e t rs)) ms (runs_after ms e t rs)
  call_on e t rs c k n =
      let f = accepted_fits e (view_of t (total rs) ms rs) (refusal_on e t rs c ∙ n) in
      after_on e t rs k f.0 f.1
