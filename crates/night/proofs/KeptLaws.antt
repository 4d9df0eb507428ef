-- Taking out more never splits: of two lists of which the one is left of the other, the shorter has no more stretches.
use Prim.Native.Nat.{ℕ, zero, suc, ◌+◌, ◌≤◌}
use mathlib.Core.Path.{◌≡◌, refl, ap}
use mathlib.Core.Bool.{Bool, true, false, cond}
use mathlib.Core.List.{List, [], ◌∷◌}
use native.Mathlib.Omega.{arith}
use Rattle.night.specs.Plans.{kept_from, opens_on, changes}

module _ {A : Type 0} (same : A → A → Bool) (chain : (x y z : A) → same x y ≡ true → same y z ≡ true → same x z ≡ true) where
  opens_one : (ys : List A) (x : A) → opens_on same ys x ≤ 1
  unfolding opens_on
  opens_one [] x = omega arith
  opens_one (y ∷ ys) x = go (same y x)
    where
      go : (b : Bool) → cond b 0 1 ≤ 1
      go true = omega arith
      go false = omega arith

  -- one taken out from behind the last: no stretch more begins there
  skip : (zs : List A) (y x : A) → opens_on same zs x + changes same zs ≤ opens_on same (y ∷ zs) x + changes same (y ∷ zs)
  unfolding opens_on changes
  skip [] y x = go (same y x)
    where
      go : (b : Bool) → 1 + 0 ≤ cond b 0 1 + (1 + 0)
      go true = omega arith
      go false = omega arith
  skip (z ∷ zs) y x = go (same z x) (same y x) (same z y) (chain z y x)
    where
      go : (a b c : Bool) → (c ≡ true → b ≡ true → a ≡ true) → cond a 0 1 + (opens_on same zs z + changes same zs) ≤ cond b 0 1 + (cond c 0 1 + (opens_on same zs z + changes same zs))
      go true b c h = go2 b c
        where
          go2 : (b c : Bool) → 0 + (opens_on same zs z + changes same zs) ≤ cond b 0 1 + (cond c 0 1 + (opens_on same zs z + changes same zs))
          go2 true true = omega arith
          go2 true false = omega arith
          go2 false c = go3 c
            where
              go3 : (c : Bool) → 0 + (opens_on same zs z + changes same zs) ≤ 1 + (cond c 0 1 + (opens_on same zs z + changes same zs))
              go3 true = omega arith
              go3 false = omega arith
      go false true true h = let e = h refl refl in let o : ◌≡◌ {A = ℕ} 0 1 = ap (λ (b : Bool). cond b 1 0) e in absurd (omega arith)
      go false false true h = omega arith
      go false true false h = omega arith
      go false false false h = omega arith

  -- what is gone in the one is gone in the other
  module _ (at : ℕ → A) (less more : ℕ → Bool) (from : ℕ) where
    -- the stretches, and those with any x behind the last
    record Fewer (n : ℕ) : Type 0 where
      plain : changes same (kept_from at more from n) ≤ changes same (kept_from at less from n)
      behind : (x : A) → changes same (x ∷ kept_from at more from n) ≤ changes same (x ∷ kept_from at less from n)

    fewer_step : (n : ℕ) (l m : Bool) → (l ≡ true → m ≡ true) → Fewer n
        → let ks = kept_from at less from n in let ms = kept_from at more from n in
        (changes same (cond m ms (at (from + n) ∷ ms)) ≤ changes same (cond l ks (at (from + n) ∷ ks)))
        × ((x : A) → changes same (x ∷ cond m ms (at (from + n) ∷ ms)) ≤ changes same (x ∷ cond l ks (at (from + n) ∷ ks)))
    unfolding changes opens_on
    fewer_step n true true h f = (f.plain, f.behind)
    fewer_step n true false h f = let e = h refl in let o : ◌≡◌ {A = ℕ} 0 1 = ap (λ (b : Bool). cond b 1 0) e in absurd (omega arith)
    fewer_step n false true h f =
        let ks = kept_from at less from n in (
          omega (arith, f.plain),
          λ x. omega (arith, f.behind x, skip ks (at (from + n)) x),
        )
    fewer_step n false false h f =
        (f.behind (at (from + n)), λ x. omega (arith, f.behind (at (from + n))))

    kept_both : ((p : ℕ) → less p ≡ true → more p ≡ true) → (n : ℕ) → Fewer n
    unfolding kept_from changes opens_on
    kept_both h zero = record { plain = omega arith; behind = λ x. omega arith }
    kept_both h (suc n) =
        let s = fewer_step n (less (from + n)) (more (from + n)) (h (from + n)) (kept_both h n) in
        record { plain = s.0; behind = s.1 }

    pub kept_fewer : ((p : ℕ) → less p ≡ true → more p ≡ true) → (n : ℕ) → changes same (kept_from at more from n) ≤ changes same (kept_from at less from n)
    kept_fewer h n = (kept_both h n).plain
