-- The stretch that a position is told to be in is the longest of equal marks, and there is no other.
use Prim.Native.Nat.{ℕ, zero, suc, ◌+◌, ◌-◌, ◌≤◌, ◌<◌}
use mathlib.Core.Path.{◌≡◌, refl, ap, ap₂, ◌∙◌, subst}
use mathlib.Core.Bool.{true, false, not}
use mathlib.Core.List.{List, []}
use native.Mathlib.Omega.{arith}
use native.Mathlib.Decide.{dec_lt}
use native.Mathlib.Numerals.{sub-one}
use borrow.Author.Tests.{lt-leb, not-true, not-false}
use Rattle.styles.specs.declared.Mark.{Mark}
use Rattle.styles.specs.Marks.{same_marks}
use Rattle.styles.proofs.SameLaws.{same_marks_self}
use Rattle.runs.specs.Positions.{stretch_to, first_of, last_of}
use Rattle.runs.proofs.ScanLaws.{stretch_le, stretch_all, stretch_stop, stretch_over, stretch_end}
use Rattle.runs.proofs.SeekLaws.{seek_from_lem, seek_to, seek_before, seek_at, seek_is}
use Rattle.tank.specs.Rules.{View, alike, fresh_view, fresh_length}
use Rattle.tank.proofs.DeleteCount.{same_chain}
use Rattle.questions.specs.Extents.{Maximal}
use Rattle.questions.specs.Questions.{position_refusal, extent_of, stretch_at}

-- where neighbours are alike all the way, both ends have the same marks
chain : (at : ℕ → List Mark) (q k : ℕ) → ((x : ℕ) → q ≤ x → x < q + k → alike at x ≡ true) → same_marks (at q) (at (q + k)) ≡ true
chain at q zero h = let z : q + 0 ≡ q = omega arith in rw z (same_marks_self (at q))
chain at q (suc k) h =
    let z : q + suc k ≡ suc (q + k) = omega arith in
    rw z
    (same_chain (at q) (at (q + k)) (at (suc (q + k))) (chain at q k (λ x a b. h x a (omega arith))) (h (q + k) (omega arith) (omega arith)))

module _ (v : View) (p : ℕ) (within : p < v.length) where
  abbrev first : ℕ
  first = first_of (alike v.at) p

  abbrev last : ℕ
  last = last_of (alike v.at) v.length p

  ends_inside : (first ≤ p) × (p ≤ last) × (last < v.length)
  ends_inside =
      let a = stretch_le (alike v.at) p in
      let b = seek_from_lem (λ q. not (alike v.at q)) p (v.length - suc p) in
      let c = seek_to (λ q. not (alike v.at q)) p (v.length - suc p) in
      (a, b, omega arith)

  -- neighbours in it are alike
  alike_in_lem : (q : ℕ) → first ≤ q → q < last → alike v.at q ≡ true
  alike_in_lem q a b =
      elim (dec_lt q p) [
        | yes h ↦ stretch_all (alike v.at) p q a h
        | no h ↦ not-false _ (seek_before (λ q. not (alike v.at q)) p (v.length - suc p) q (omega arith) b)
      ]

  pub extent_maximal : Maximal v p (first_of (alike v.at) p) (last_of (alike v.at) v.length p)
  extent_maximal =
      record {
        holds = ends_inside;
        same = λ q r a l b.
            let z : q + (r - q) ≡ r = omega arith in
            subst (λ (x : ℕ). same_marks (v.at q) (v.at x) ≡ true) z
            (chain v.at q (r - q) (λ x c d. alike_in_lem x (omega arith) (omega arith)));
        before = λ q e. ap (λ (x : ℕ). same_marks (v.at q) (v.at x)) e ∙ stretch_stop (alike v.at) p q e;
        behind = λ h. not-true _ (seek_at (λ q. not (alike v.at q)) p (v.length - suc p) (omega arith));
      }

-- there is no other such stretch
module _ {v : View} {p a b : ℕ} (m : Maximal v p a b) where
  one_first : first_of (alike v.at) p ≡ a
  unfolding stretch_to
  one_first =
      let h = m.holds in
      stretch_over (alike v.at) a p h.0 (λ x c d. m.same x (suc x) c (omega arith) (omega arith))
      ∙ go a refl
    where
      go : (s : ℕ) → a ≡ s → stretch_to (alike v.at) s ≡ s
      go zero e = refl
      go (suc q) e =
          stretch_end (alike v.at) (suc q) (omega arith)
          (rw sub-one (subst (λ (x : ℕ). same_marks (v.at q) (v.at x) ≡ false) e (m.before q e)))

  one_last : last_of (alike v.at) v.length p ≡ b
  one_last =
      let h = m.holds in
      let c = h.0 in
      let d = h.1 in
      let e = h.2 in
      seek_is (λ q. not (alike v.at q)) p (v.length - suc p) b d (omega arith)
      (λ x f g. ap not (m.same x (suc x) (omega arith) (omega arith) g))
      (λ g. ap not (m.behind (omega arith)))

  pub extent_one : stretch_at p v ≡ extent_of 0 a b
  unfolding position_refusal
  extent_one =
      let h = m.holds in
      let e : position_refusal p v ≡ 0 = simp (lt-leb v.length p (omega (arith, h.1, h.2))) in
      ap (λ (n : ℕ). extent_of n (first_of (alike v.at) p) (last_of (alike v.at) v.length p)) e
      ∙ ap₂ (extent_of 0) one_first one_last

-- ---- a tank without marks is one stretch; so is an untouched one
pub unmarked_extent : (v : View) (p : ℕ) → p < v.length → ((q : ℕ) → v.at q ≡ []) → stretch_at p v ≡ extent_of 0 0 (v.length - 1)
unmarked_extent v p h none =
    extent_one
    (record {
      holds = (omega arith, omega arith, omega arith);
      same = λ q r a l b. ap₂ same_marks (none q) (none r) ∙ same_marks_self [];
      before = λ q e. absurd (omega arith);
      behind = λ g. absurd (omega arith);
    })

pub fresh_extent : (p : ℕ) → p < fresh_length → stretch_at p fresh_view ≡ extent_of 0 0 (fresh_length - 1)
unfolding fresh_view
fresh_extent p h = unmarked_extent fresh_view p h (λ q. refl)
