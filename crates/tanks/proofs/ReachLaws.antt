-- The stretch of a position where neighbouring runs may have the same of a party's bits: as long as the bits stay, the stretch goes on.
use Prim.Native.Nat.{ℕ, zero, suc, ◌+◌, ◌-◌, ◌≤◌, ◌<◌}
use mathlib.Core.Path.{◌≡◌, refl, sym, ap, ◌∙◌}
use mathlib.Core.Bool.{Bool, true, false, not}
use mathlib.Core.List.{List}
use native.Mathlib.Omega.{arith}
use native.Mathlib.Decide.{dec_lt}
use native.Mathlib.Numerals.{sub-one}
use borrow.Author.Tests.{eq-eqb, ne_eqb}
use lib.Dec.{eqb}
use lib.Bits.{bit_and}
use lib.ListN.{get_or}
use Rattle.runs.specs.Positions.{stretch_to, first_of, last_of}
use Rattle.runs.specs.Runs.{set_at}
use Rattle.runs.proofs.ScanLaws.{stretch_over, stretch_end}
use Rattle.runs.proofs.SeekLaws.{seek_is}
use Rattle.tanks.specs.declared.Run.{Run}
use Rattle.tanks.specs.Pool.{no_run}
use Rattle.tanks.proofs.LookLaws.{len_from, Walked}
use Rattle.tanks.proofs.RangeLaws.{runs_from, on_run}

-- ---- the positions first .. end have one number, and the one before them another
pub record Level (f : ℕ → ℕ) (first end one : ℕ) : Type 0 where
  pub all : (p : ℕ) → first ≤ p → p < end → f p ≡ one
  pub edge : (q : ℕ) → first ≡ suc q → f q ≡ one → ⊥
  pub some : 0 < end → first < end

module _ (f : ℕ → ℕ) {first end one : ℕ} (level : Level f first end one) (pos : ℕ) (reached : first ≤ pos) (inside : pos < end) where
  abbrev same : ℕ → Bool
  same p = eqb (f p) (f (suc p))

  same_in : (p : ℕ) → first ≤ p → suc p < end → same p ≡ true
  same_in p a b = eq-eqb (f p) (f (suc p)) (level.all p a (omega arith) ∙ sym (level.all (suc p) (omega arith) b))

  -- so they begin the stretch of a position in them
  pub first_is : first ≡ first_of (λ p. eqb (f p) (f (suc p))) pos
  unfolding stretch_to
  first_is = sym (stretch_over same first pos reached (λ p a b. same_in p a (omega arith)) ∙ go first refl)
    where
      go : (s : ℕ) → first ≡ s → stretch_to same s ≡ s
      go zero e = refl
      go (suc q) e =
          stretch_end same (suc q) (omega arith)
          (rw sub-one (ne_eqb (f q) (f (suc q)) (λ z. level.edge q e (z ∙ level.all (suc q) (omega arith) (omega arith)))))

  -- and end it where they are the last, or the next has another
  pub last_is : (n : ℕ) → end ≤ n → (end < n → f end ≡ one → ⊥) → end - 1 ≡ last_of (λ p. eqb (f p) (f (suc p))) n pos
  last_is n h next =
      sym
      (seek_is (λ q. not (same q)) pos (n - suc pos) (end - 1) (omega arith) (omega arith)
      (λ p a b. ap not (same_in p (omega arith) (omega arith)))
      (λ l. ap not (apart (omega arith))))
    where
      apart : end < n → same (end - 1) ≡ false
      apart l =
          let z : suc (end - 1) ≡ end = omega arith in
          ne_eqb (f (end - 1)) (f (suc (end - 1)))
          (λ e. next l (sym (ap f z) ∙ sym e ∙ level.all (end - 1) (omega arith) (omega arith)))

-- ---- a walk over the runs, by the bits of a mask
abbrev pub bits_from : List Run → ℕ → ℕ → ℕ → ℕ → ℕ
bits_from pool at n own p = bit_and (set_at (runs_from pool at n) p) own

pub level_begins : (f : ℕ → ℕ) → Level f 0 0 0
level_begins f = record { all = λ p a b. absurd (omega arith); edge = λ q e z. absurd (omega arith); some = λ h. absurd (omega arith) }

module _ {pool : List Run} {at n i end : ℕ} (w : Walked pool at n i end) (h : i < n) (long : 0 < len_from pool at i) (own : ℕ) {first one : ℕ}
    (level : Level (bits_from pool at n own) first end one) where
  -- the next run's
  abbrev bits : ℕ
  bits = bit_and (get_or pool (at + i) no_run).set own

  bits_on : (p : ℕ) → end ≤ p → p < end + len_from pool at i → bits_from pool at n own p ≡ bits
  bits_on p a c = ap (λ (x : ℕ). bit_and x own) (on_run w h p a c)

  -- a run with the same bits
  pub level_on : first ≤ end → bits ≡ one → Level (bits_from pool at n own) first (end + len_from pool at i) one
  level_on l e =
      record {
        all = λ p a c. elim (dec_lt p end) [ yes g ↦ level.all p a g | no g ↦ bits_on p (omega arith) c ∙ e ];
        edge = level.edge;
        some = λ g. omega arith;
      }

  -- one with others
  pub level_new : (bits ≡ one → ⊥) → Level (bits_from pool at n own) end (end + len_from pool at i) bits
  level_new d =
      record {
        all = bits_on;
        edge = λ q e z. let s = level.some (omega arith) in d (sym z ∙ level.all q (omega arith) (omega arith));
        some = λ g. omega arith;
      }

  -- it has others where the stretch ends
  pub level_ends : (bits ≡ one → ⊥) → bits_from pool at n own end ≡ one → ⊥
  level_ends d z = d (sym (bits_on end (omega arith) (omega arith)) ∙ z)
