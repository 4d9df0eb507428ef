-- Lines of a group one by one.
use Rattle.std.specs.Prelude.{None}
use mathlib.Core.Path.{◌≡◌, refl, ap}
use mathlib.Core.Bool.{true, false}
use mathlib.Core.List.{List, [], ◌∷◌}
use Prim.Native.Nat.{ℕ, zero, suc, ◌-◌, ◌<◌}
use native.Mathlib.Omega.{arith}
use lib.ListN.{length, drop}
use Rattle.text.specs.Bytes.{up_to, starts_of}
use Rattle.text.specs.Number.{decimal_of}
use Rattle.keeper_file.specs.Group.{newline, number_behind, field_in}

-- a text of no lines says nothing
pub field_none : (n : ℕ) (name : List ℕ) → field_in n name [] ≡ None
unfolding field_in starts_of up_to decimal_of
field_none zero name = refl
field_none (suc n) [] = refl
field_none (suc n) (x ∷ xs) = field_none n (x ∷ xs)

-- the first line begins with the name
pub field_here : (n : ℕ) (name text : List ℕ) → 0 < n → starts_of (up_to newline text) name ≡ true → field_in n name text ≡ number_behind name (up_to newline text)
unfolding field_in
field_here zero name text h e = absurd (omega arith)
field_here (suc n) name text h e = rw e refl

-- or it does not
pub field_past : (n : ℕ) (name text : List ℕ) → 0 < n → starts_of (up_to newline text) name ≡ false → field_in n name text ≡ field_in (n - 1) name (drop (suc (length (up_to newline text))) text)
unfolding field_in
field_past zero name text h e = absurd (omega arith)
field_past (suc n) name text h e =
    let z : n ≡ suc n - 1 = omega arith in rw e (ap (λ (m : ℕ). field_in m name (drop (suc (length (up_to newline text))) text)) z)
