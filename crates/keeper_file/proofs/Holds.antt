-- Copying from the front on reads nothing that it has overwritten: after i turns the first i bytes are those from the place on, the rest as it was.
use Prim.Native.Nat.{ℕ, zero, suc, ◌+◌, ◌-◌, ◌≤◌, ◌<◌}
use mathlib.Core.Path.{◌≡◌, refl, sym, ap, ap₂, ◌∙◌}
use mathlib.Core.List.{List, ◌++◌}
use native.Mathlib.Omega.{arith}
use lib.ListN.{length, get_or, drop, set, length-set, length-drop}
use lib.Seq.{length-take-le, get_or-drop, get_or-set_other}
use Rattle.laws.proofs.Lists.{stored, stored_is}
use Rattle.keeper_file.specs.Holding.{cut_out, moved_to_front}

-- ---- after i turns
-- the byte that goes to place k
abbrev from : List ℕ → ℕ → ℕ → ℕ
from bytes at k = get_or bytes (at + k) 0

-- what lies behind the bytes that were stored is as it was
stored_behind : (f : ℕ → ℕ) (ys : List ℕ) (n j : ℕ) → n ≤ j → get_or (stored f ys n) j 0 ≡ get_or ys j 0
stored_behind f ys zero j h = refl
stored_behind f ys (suc n) j h = get_or-set_other (stored f ys n) n j (f n) 0 (λ e. omega (arith, h, e)) ∙ stored_behind f ys n j (omega arith)

pub record Moved (at n : ℕ) (first bytes : List ℕ) (i : ℕ) : Type 0 where
  pub few : i ≤ n
  pub room : length bytes ≡ length first
  pub is : bytes ≡ stored (from first at) first i

pub moved_none : (at n : ℕ) (first : List ℕ) → Moved at n first first 0
moved_none at n first = record { few = omega arith; room = refl; is = refl }

pub moved_on : {at n : ℕ} {first bytes : List ℕ} {i : ℕ} → Moved at n first bytes i → i < n → Moved at n first (set bytes i (get_or bytes (at + i) 0)) (i + 1)
moved_on {at} {n} {first} {bytes} {i} inv h =
    let s : suc i ≡ i + 1 = omega arith in
    let e : get_or bytes (at + i) 0 ≡ from first at i = ap (λ (xs : List ℕ). get_or xs (at + i) 0) inv.is ∙ stored_behind (from first at) first i (at + i) (omega arith) in
    record {
      few = omega arith;
      room = length-set bytes i (get_or bytes (at + i) 0) ∙ inv.room;
      is = ap₂ (λ (xs : List ℕ) (y : ℕ). set xs i y) inv.is e ∙ ap (stored (from first at) first) s;
    }

-- ---- after all of them
pub length_cut_out : (at end : ℕ) (bytes : List ℕ) → at ≤ end → end ≤ length bytes → length (cut_out at end bytes) ≡ end - at
length_cut_out at end bytes h g = length-take-le (end - at) (drop at bytes) (omega (arith, length-drop at bytes))

pub moved_all : {at end : ℕ} {first bytes : List ℕ} {i : ℕ} → Moved at (end - at) first bytes i → end - at ≤ i → at ≤ end → end ≤ length first → bytes ≡ moved_to_front at end first
moved_all {at} {end} {first} {bytes} {i} inv h g l =
    let w = inv.few in
    let e : i ≡ end - at = omega arith in
    inv.is
    ∙ ap (stored (from first at) first) e
    ∙ stored_is (from first at) (drop at first) first 0 (end - at) (omega (arith, length-drop at first)) (omega arith) (λ k _. sym (get_or-drop at first k 0))
    ∙ ap (λ (n : ℕ). cut_out at end first ++ drop n first) (sym (length_cut_out at end first g l))
