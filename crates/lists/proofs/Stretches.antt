-- The stretches over a range are the maximal ones: they tile it, each has one set throughout and begins where the set changes, and no other list does so.
-- The runs that a tank holds are as many as those of the whole of it.
use Prim.Native.Nat.{ℕ, zero, suc, ◌+◌, ◌-◌, ◌≤◌, ◌<◌}
use mathlib.Core.Path.{◌≡◌, refl, sym, ap, ◌∙◌}
use mathlib.Core.Bool.{Bool, true, false, cond, false≢true, and-eq-true_iff}
use mathlib.Core.List.{List, [], ◌∷◌}
use native.Mathlib.Omega.{arith, by_contra}
use native.Mathlib.Decide.{dec_lt, dec_le}
use borrow.Author.Tests.{le-leb, lt-leb}
use lib.ListN.{length}
use Rattle.styles.specs.declared.Mark.{Mark}
use Rattle.styles.specs.Order.{id_of, same_id}
use Rattle.styles.specs.Marks.{same_marks}
use Rattle.runs.specs.Positions.{sum_below, starts, stretch_count, Stretch, stretch, extended, stretches_at}
use Rattle.runs.proofs.SumLaws.{sum_next}
use Rattle.tank.specs.Rules.{View, alike, runs_held}
use Rattle.lists.specs.Lists.{stretches_over, Maximal, Tiles, TilesOver}

module _ (equal : ℕ → Bool) (count : ℕ → ℕ) where
  module _ (same : (p : ℕ) → equal p ≡ true → count p ≡ count (suc p)) (a : ℕ) where
    begins : (p : ℕ) (xs : List Stretch) → a ≤ p → (a < p → equal (p - 1) ≡ false) → Tiles equal count a p xs → Tiles equal count a (suc p) (stretch p (suc p) (count p) ∷ xs)
    unfolding Tiles
    begins p xs h g t = (
      record {
        last = refl;
        inside = h;
        some = omega arith;
        one = λ q x y. absurd (omega arith);
        counted = λ q x y. let e : q ≡ p = omega arith in ap count e;
        begun = g;
      },
      t,
    )

    goes_on : (p : ℕ) (x : Stretch) (xs : List Stretch) → equal (p - 1) ≡ true → Tiles equal count a p (x ∷ xs) → Tiles equal count a (suc p) (stretch x.start (suc p) x.marks ∷ xs)
    unfolding Tiles
    goes_on p x xs e t =
        let m = t.0 in
        let l = m.last in
        let s = m.some in (
          record {
            last = refl;
            inside = m.inside;
            some = omega arith;
            one =
                λ q i k.
                elim (dec_lt (suc q) p) [
                  | yes h ↦ m.one q i (omega arith)
                  | no h ↦ let z : q ≡ p - 1 = omega arith in ap equal z ∙ e
                ];
            counted =
                λ q i k.
                elim (dec_lt q p) [
                  | yes h ↦ m.counted q i (omega arith)
                  | no h ↦
                      let z : q ≡ suc (p - 1) = omega arith in
                      ap count z ∙ sym (same (p - 1) e) ∙ m.counted (p - 1) (omega arith) (omega arith)
                ];
            begun = m.begun;
          },
          t.1,
        )

    longer : (t : Bool) (p : ℕ) (xs : List Stretch) → equal (p - 1) ≡ t → a ≤ p → Tiles equal count a p xs → Tiles equal count a (suc p) (extended t p (count p) xs)
    unfolding extended Tiles
    longer t p [] e h g = begins p [] h (λ k. absurd (omega arith)) g
    longer true p (x ∷ xs) e h g = goes_on p x xs e g
    longer false p (x ∷ xs) e h g = begins p (x ∷ xs) h (λ k. e) g

    pub tiles : (b : ℕ) → Tiles equal count a b (stretches_at equal count a b)
    unfolding stretches_at Tiles
    tiles zero = omega arith
    tiles (suc p) =
        elim (dec_le a p) [
          | yes h ↦ rw (le-leb a p h) (longer (equal (p - 1)) p (stretches_at equal count a p) refl h (tiles p))
          | no h ↦ rw (lt-leb a p (omega arith)) (omega arith)
        ]

  -- one of two stretches that end a range does not begin before the other
  not_before : (a b : ℕ) (x y : Stretch) → Maximal equal count a b x → Maximal equal count a b y → x.start < y.start → ⊥
  not_before a b x y m n h =
      let i = m.inside in
      let l = m.last in
      let k = n.last in
      let s = n.some in
      false≢true (sym (n.begun (omega arith)) ∙ m.one (y.start - 1) (omega arith) (omega arith))

  pub only_one : (a b : ℕ) (xs ys : List Stretch) → Tiles equal count a b xs → Tiles equal count a b ys → xs ≡ ys
  unfolding Tiles
  only_one a b [] [] t u = refl
  only_one a b [] (y ∷ ys) t u = let i = u.0.inside in let l = u.0.last in let s = u.0.some in absurd (omega arith)
  only_one a b (x ∷ xs) [] t u = let i = t.0.inside in let l = t.0.last in let s = t.0.some in absurd (omega arith)
  only_one a b (x ∷ xs) (y ∷ ys) t u =
      let m = t.0 in
      let n = u.0 in
      let s : x.start ≡ y.start = omega (arith, by_contra _ _ (not_before a b x y m n), by_contra _ _ (not_before a b y x n m)) in
      let c : x.marks ≡ y.marks = sym (m.counted x.start (omega arith) m.some) ∙ ap count s ∙ n.counted y.start (omega arith) n.some in
      let e : x.end ≡ y.end = m.last ∙ sym n.last in
      let r = only_one a x.start xs ys t.1 (rw s u.1) in
      λ i. stretch (s i) (e i) (c i) ∷ r i

-- ---- of a tank
same_length : (xs ys : List Mark) → same_marks xs ys ≡ true → length xs ≡ length ys
unfolding same_marks
same_length [] [] e = refl
same_length [] (y ∷ ys) e = absurd (false≢true e)
same_length (x ∷ xs) [] e = absurd (false≢true e)
same_length (x ∷ xs) (y ∷ ys) e = omega (arith, same_length xs ys ((and-eq-true_iff (same_id (id_of x) (id_of y)) (same_marks xs ys)).0 e).1)

pub stretches_tile : (a b : ℕ) (v : View) → TilesOver a b v (stretches_over a b v)
stretches_tile a b v = tiles _ _ (λ p. same_length (v.at p) (v.at (suc p))) a b

pub stretches_only : (a b : ℕ) (v : View) (xs : List Stretch) → TilesOver a b v xs → xs ≡ stretches_over a b v
stretches_only a b v xs h = only_one _ _ a b xs (stretches_over a b v) h (stretches_tile a b v)

-- ---- the runs that a tank holds are the maximal stretches of the whole of it
extended_more : (a : Bool) (p c : ℕ) (xs : List Stretch) → 0 < length xs → length (extended a p c xs) ≡ length xs + cond a 0 1
unfolding extended
extended_more a p c [] h = absurd (omega arith)
extended_more true p c (x ∷ xs) h = omega arith
extended_more false p c (x ∷ xs) h = omega arith

stretches_counted : (equal : ℕ → Bool) (count : ℕ → ℕ) (n : ℕ) → length (stretches_at equal count 0 n) ≡ stretch_count equal n
unfolding stretches_at sum_below starts
stretches_counted equal count zero = refl
stretches_counted equal count (suc zero) = refl
stretches_counted equal count (suc (suc p)) =
    let e : suc p - 1 ≡ p = omega arith in
    let ih = stretches_counted equal count (suc p) in
    simp (le-leb 0 (suc p) (omega arith))
    (rw e (extended_more (equal p) (suc p) (count (suc p)) (stretches_at equal count 0 (suc p)) (omega (arith, ih, sum_next (starts equal) 0 (suc p) (omega arith)))
    ∙ ap (λ (x : ℕ). x + cond (equal p) 0 1) ih))

pub runs_listed : (v : View) → runs_held v ≡ length (stretches_over 0 v.length v)
runs_listed v = sym (stretches_counted (alike v.at) (λ p. length (v.at p)) v.length)
