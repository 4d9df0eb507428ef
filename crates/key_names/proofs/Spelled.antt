-- A name byte by byte.
use mathlib.Core.Path.{◌≡◌, refl, sym, ap, ◌∙◌}
use mathlib.Core.Bool.{Bool, true, false, ◌&&◌, and-eq-true_iff}
use mathlib.Core.List.{List}
use Prim.Native.Nat.{ℕ, suc, ◌+◌, ◌≤◌, ◌<◌}
use native.Mathlib.Numerals.{add-one}
use native.Mathlib.Omega.{arith}
use lib.Dec.{leb}
use lib.ListN.{length, get_or, drop, drop_of_length-le}
use lib.Seq.{drop-cons}
use borrow.Author.Tests.{leb-true, le-leb, lt-leb}
use Rattle.key_names.specs.Names.{in_name, all_in_name, is_name}

-- ---- a name
and_false : (b : Bool) → false ≡ (b && false)
and_false true = refl
and_false false = refl

module _ (s : List ℕ) where
  pub name_empty : length s < 1 → false ≡ is_name s
  unfolding is_name
  name_empty h = rw (lt-leb 1 (length s) h)

  pub name_long : 24 < length s → false ≡ is_name s
  unfolding is_name
  name_long h = rw (le-leb 1 (length s) (omega arith)) (rw (lt-leb (length s) 24 h))

  module _ (i : ℕ) (inv : all_in_name (drop i s) ≡ all_in_name s) where
    module _ (h : i < length s) where
      next : all_in_name s ≡ (in_name (get_or s i 0) && all_in_name (drop (suc i) s))
      unfolding all_in_name
      next = sym inv ∙ ap all_in_name (drop-cons s i 0 h)

      pub name_on : in_name (get_or s i 0) ≡ true → all_in_name (drop (i + 1) s) ≡ all_in_name s
      name_on e = rw (add-one i) (sym (next ∙ ap (λ (b : Bool). b && all_in_name (drop (suc i) s)) e))

      pub name_stop : in_name (get_or s i 0) ≡ false → false ≡ is_name s
      unfolding is_name
      name_stop e = rw (next ∙ ap (λ (b : Bool). b && all_in_name (drop (suc i) s)) e) (and_false (leb 1 (length s) && leb (length s) 24))

    pub name_all : length s ≤ i → 1 ≤ length s → length s ≤ 24 → true ≡ is_name s
    unfolding is_name all_in_name
    name_all h l m =
        let e : all_in_name s ≡ true = sym inv ∙ ap all_in_name (drop_of_length-le s h) in
        rw (le-leb 1 (length s) l) (rw (le-leb (length s) 24 m) (sym e))

-- a name is 1 to 24 bytes long
pub record Sized (s : List ℕ) : Type 0 where
  pub least : 1 ≤ length s
  pub most : length s ≤ 24
  pub all : all_in_name s ≡ true

pub name_sized : (s : List ℕ) → is_name s ≡ true → Sized s
unfolding is_name
name_sized s e =
    let a = (and-eq-true_iff (leb 1 (length s) && leb (length s) 24) (all_in_name s)).0 e in
    let b = (and-eq-true_iff (leb 1 (length s)) (leb (length s) 24)).0 a.0 in
    record { least = leb-true 1 (length s) b.0; most = leb-true (length s) 24 b.1; all = a.1 }
