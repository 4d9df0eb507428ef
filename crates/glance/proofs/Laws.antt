-- A turn of the loops over eight, what the pool has left by the heads, the cells of a strip that nothing refuses, and the legend by its cases.
use Prim.Native.Nat.{ℕ, suc, ◌+◌, ◌-◌, ◌*◌, ◌%◌, ◌^◌, ◌≤◌, ◌<◌}
use mathlib.Core.Path.{◌≡◌, refl, sym, ap, ◌∙◌}
use mathlib.Core.Bool.{Bool, cond}
use mathlib.Core.List.{List, [], ◌++◌}
use native.Mathlib.Omega.{arith}
use lib.Dec.{ltb}
use lib.ListN.{length}
use borrow.Author.Tests.{lt-ltb, le-ltb, ne_eqb}
use Rattle.tank.specs.Rules.{View, when_accepted}
use Rattle.tanks.specs.declared.Tanks.{Tanks}
use Rattle.tanks.specs.Settings.{claims}
use Rattle.tanks.specs.House.{held}
use Rattle.tanks.specs.Pool.{runs_in, meaning, Sound}
use Rattle.tanks.proofs.SettingLaws.{claims_cong}
use Rattle.tanks.proofs.MeaningLaws.{held_is}
use Rattle.runs.specs.Stretches.{in_front}
use Rattle.strip.specs.Strip.{strip, strip_number}
use Rattle.strip.proofs.StripLaws.{number_0, strip_whole}
use Rattle.answers.specs.Waiting.{Pieces}
use Rattle.glance.specs.Glance.{each_from, left_in, cell_of, line_begins, is_no_key}

-- ---- eight, one after another
-- one more
pub each_more : (says : ℕ → Pieces) (t : ℕ) → t < 8 → each_from says (8 - t) t ≡ says t ++ each_from says (8 - (t + 1)) (t + 1)
unfolding each_from
each_more says t h =
    let e : 8 - t ≡ suc (8 - (t + 1)) = omega arith in
    let f : suc t ≡ t + 1 = omega arith in
    ap (λ (n : ℕ). each_from says n t) e ∙ ap (λ (j : ℕ). says t ++ each_from says (8 - (t + 1)) j) f

-- none is left
pub each_none : (says : ℕ → Pieces) (t : ℕ) → 8 ≤ t → each_from says (8 - t) t ≡ []
unfolding each_from
each_none says t h = let e : 8 - t ≡ 0 = omega arith in ap (λ (n : ℕ). each_from says n t) e

-- ---- what the pool has left, by the heads
pub left_is : (s : Tanks) → Sound s → 512 - claims s.settings (runs_in s.heads) 8 ≡ left_in (meaning s)
unfolding meaning
left_is s ok = sym (ap (λ (n : ℕ). 512 - n) (claims_cong s.settings (held (meaning s)) (runs_in s.heads) 8 (held_is s ok)))

-- ---- the cells
-- of a tank that there is, with positions in a cell, 96 bytes are the strip
pub painted_is : (t k start : ℕ) (v : View) (keys letters out : List ℕ) {r : List ℕ} → t < 8 → 1 ≤ k → length out ≡ 96
    → r ≡ when_accepted (strip_number t k (length out)) (in_front (strip v keys letters start k) out) out → r ≡ strip v keys letters start k
painted_is t k start v keys letters out h one long e =
    e
    ∙ ap (λ (n : ℕ). when_accepted n (in_front (strip v keys letters start k) out) out) (number_0 t k (length out) h (λ z. omega arith) (omega arith))
    ∙ strip_whole v keys letters start k out long

-- ---- a strip, or none
module _ {A : Type 0} (e n : ℕ) (same : e ≡ n) (none : A) where
  pub none_marked : (some : A) → e < 1 → none ≡ cond (ltb n 1) none some
  none_marked some h = sym (ap (λ (b : Bool). cond b none some) (lt-ltb n 1 (omega (arith, same, h))))

  pub some_marked : (some : ℕ → A) {k : ℕ} → 1 ≤ e → k ≡ cell_of e → some k ≡ cond (ltb n 1) none (some (cell_of n))
  some_marked some h is =
      ap some (is ∙ ap (λ (m : ℕ). cell_of m) same)
      ∙ sym (ap (λ (b : Bool). cond b none (some (cell_of n))) (le-ltb n 1 (omega (arith, same, h))))

-- 96 cells reach up to the end, and with a position less to a cell they would not
pub cells_reach : (end : ℕ) → end ≤ 96 * cell_of end
cells_reach end = omega arith

pub cells_few : (end : ℕ) → 1 ≤ end → 96 * (cell_of end - 1) < end
cells_few end h = omega arith

-- ---- the legend
-- a key as the names take it
pub small_key : (k : ℕ) {r : ℕ} → k ≤ 65535 → r ≡ k % 2 ^ 16 → r ≡ k
small_key k h e = omega (arith, h, e)

-- an entry inside a line
pub inside_line : (i : ℕ) → (i ≡ 0 → ⊥) → (i ≡ 4 → ⊥) → [] ≡ line_begins i
inside_line i h g = rw (ne_eqb i 0 h, ne_eqb i 4 g) refl

-- what stands for a key, where there is one
pub no_key : (key : ℕ) (says : Pieces) → 65535 < key → [] ≡ cond (is_no_key key) [] says
no_key key says h = sym (ap (λ (b : Bool). cond b [] says) (lt-ltb 65535 key h))

pub a_key : (key : ℕ) (says : Pieces) → key ≤ 65535 → says ≡ cond (is_no_key key) [] says
a_key key says h = sym (ap (λ (b : Bool). cond b [] says) (le-ltb 65535 key h))
