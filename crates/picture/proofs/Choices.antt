-- Pieces that are put where a test holds, and tests as the code makes them.
use Prim.Native.Nat.{ℕ, ◌≤◌, ◌<◌, ◌^◌, ◌%◌}
use mathlib.Core.Bool.{Bool, true, false, cond}
use mathlib.Core.List.{List, []}
use mathlib.Core.Path.{◌≡◌, sym, ap, ◌∙◌}
use native.Mathlib.Nat.{mod-eq_of_lt}
use native.Mathlib.Omega.{arith}
use borrow.Author.Tests.{lt-ltb, le-ltb}
use lib.Dec.{ltb}
use Rattle.answers.specs.Waiting.{Pieces, Adds}
use Rattle.answers.proofs.Laws.{adds_as, no_piece}
use Rattle.questions.specs.declared.Shown.{Shown}
use Rattle.questions.specs.Questions.{value_at}
use Rattle.tank.specs.Rules.{View}
use Rattle.windows.specs.Windows.{is_value, shows_at}

pub chosen : {d o : List ℕ} {at r : ℕ} {x : Pieces} (b : Bool) → b ≡ true → Adds d at x r o → Adds d at (cond b x []) r o
chosen {x = x} b e a = adds_as (sym (ap (λ (c : Bool). cond c x []) e)) a

pub not_chosen : (x : Pieces) (d : List ℕ) (at : ℕ) (b : Bool) → b ≡ false → Adds d at (cond b x []) at d
not_chosen x d at b e = adds_as (sym (ap (λ (c : Bool). cond c x []) e)) (no_piece d at)

-- one of two
module _ {d o : List ℕ} {at r : ℕ} (x y : Pieces) (b : Bool) where
  pub when_true : b ≡ true → Adds d at x r o → Adds d at (cond b x y) r o
  when_true e a = adds_as (sym (ap (λ (c : Bool). cond c x y) e)) a

  pub when_false : b ≡ false → Adds d at y r o → Adds d at (cond b x y) r o
  when_false e a = adds_as (sym (ap (λ (c : Bool). cond c x y) e)) a

-- a key within 16 bits
pub whole_key : (key k : ℕ) → k ≡ key % 2 ^ 16 → key < 65536 → k ≡ key
whole_key key k e h = e ∙ mod-eq_of_lt h

pub shows_by : (s : Shown) (pos key k : ℕ) (v : View) → s ≡ value_at pos k v → k ≡ key % 2 ^ 16 → key < 65536 → is_value s ≡ shows_at v key pos
shows_by s pos key k v e f h = ap is_value e ∙ ap (λ (x : ℕ). is_value (value_at pos x v)) (whole_key key k f h)

-- by whether there are marks
module _ {d o : List ℕ} {at r n m : ℕ} (x : Pieces) (e : n ≡ m) where
  pub lab_none : m < 1 → Adds d at [] r o → Adds d at (cond (ltb n 1) [] x) r o
  lab_none h a = adds_as (sym (ap (λ (b : Bool). cond b [] x) (lt-ltb n 1 (omega (arith, e))))) a

  pub lab_some : 1 ≤ m → Adds d at x r o → Adds d at (cond (ltb n 1) [] x) r o
  lab_some h a = adds_as (sym (ap (λ (b : Bool). cond b [] x) (le-ltb n 1 (omega (arith, e))))) a
