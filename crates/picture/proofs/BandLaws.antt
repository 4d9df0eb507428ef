-- Bands: what is held, the edges, and where the marked part ends.
use Prim.Native.Nat.{ℕ, ◌-◌, ◌≤◌, ◌<◌, ◌^◌, ◌%◌}
use mathlib.Core.Bool.{Bool, true, false, cond}
use mathlib.Core.List.{List, [], ◌∷◌, ◌++◌}
use mathlib.Core.Path.{◌≡◌, refl, sym, ap, ap₂, ◌∙◌}
use native.Mathlib.Omega.{arith}
use borrow.Author.Tests.{lt-ltb, le-ltb}
use lib.Dec.{ltb}
use lib.ListN.{length, get_or, take, drop}
use Rattle.questions.specs.declared.Told.{Told}
use Rattle.questions.specs.Questions.{range_contains_key}
use Rattle.styles.specs.declared.Party.TheVariants.{Lab}
use Rattle.tank.specs.declared.Tank.{Tank}
use Rattle.tank.specs.Rules.{View, marks_of, carried}
use Rattle.tank.specs.State.{view, table_of, Sound}
use Rattle.tank.proofs.Unique.{marks_carried}
use Rattle.picture.specs.Scale.{place_of}
use Rattle.picture.specs.Bands.{is_yes, held_in, labelled, last_after, edge_says, edges_from, end_of, depth_of}
use Rattle.picture.proofs.Choices.{whole_key}
use Rattle.answers.proofs.Loops.{rest_is}

pub held_by : (h : Told) (from to key k : ℕ) (v : View) → h ≡ range_contains_key from to k v → k ≡ key % 2 ^ 16 → key < 65536 → is_yes h ≡ held_in v key from to
held_by h from to key k v e f l = ap is_yes e ∙ ap (λ (x : ℕ). is_yes (range_contains_key from to x v)) (whole_key key k f l)

-- ---- labels
-- at a position
module _ (end last pos x : ℕ) (e : x ≡ place_of end pos) (b : Bool) (f : b ≡ labelled end last x) where
  pub labelled_at : b ≡ labelled end last (place_of end pos)
  labelled_at = f ∙ ap (labelled end last) e

-- the edges of one stretch more
pub edges_more : (end y last m n : ℕ) (l : List ℕ) → 3 ≤ length l → m ≡ last_after end last (get_or l 0 0) → n ≡ last_after end m (get_or l 1 0)
    → edges_from end y last l ≡ (edge_says end y last (get_or l 0 0) ++ edge_says end y m (get_or l 1 0)) ++ edges_from end y n (take (length l - 3) (drop 3 l))
unfolding edges_from
edges_more end y last m n [] h e f = absurd (omega arith)
edges_more end y last m n (a ∷ []) h e f = absurd (omega arith)
edges_more end y last m n (a ∷ b ∷ []) h e f = absurd (omega arith)
edges_more end y last m n (a ∷ b ∷ c ∷ l) h e f =
    ap₂ (λ (j k : ℕ). (edge_says end y last a ++ edge_says end y j b) ++ edges_from end y k l) (sym e) (sym (f ∙ ap (λ (z : ℕ). last_after end z b) e))
    ∙ ap (λ (k : List ℕ). (edge_says end y last a ++ edge_says end y m b) ++ edges_from end y n k) (sym (rest_is (a ∷ b ∷ c ∷ l)))

pub edges_none : (end y last : ℕ) (l : List ℕ) → length l < 3 → edges_from end y last l ≡ []
unfolding edges_from
edges_none end y last [] h = refl
edges_none end y last (a ∷ []) h = refl
edges_none end y last (a ∷ b ∷ []) h = refl
edges_none end y last (a ∷ b ∷ c ∷ l) h = absurd (omega arith)

-- ---- a tank
module _ (list : List ℕ) where
  pub end_none : length list < 3 → 0 ≡ end_of list
  unfolding end_of
  end_none h = sym (ap (λ (b : Bool). cond b 0 (get_or list (length list - 2) 0)) (lt-ltb (length list) 3 h))

  pub end_some : 3 ≤ length list → get_or list (length list - 2) 0 ≡ end_of list
  unfolding end_of
  end_some h = sym (ap (λ (b : Bool). cond b 0 (get_or list (length list - 2) 0)) (le-ltb (length list) 3 h))

module _ {t : Tank} (s : Sound t) (b : Bool) (e : b ≡ ltb 0 (marks_of Lab (table_of t))) where
  lab_there : ltb 0 (marks_of Lab (carried (view t))) ≡ b
  lab_there = ap (λ ms. ltb 0 (marks_of Lab ms)) (marks_carried s.formed) ∙ sym e

  pub deep : b ≡ true → 52 ≡ depth_of (view t)
  deep h = sym (ap (λ (c : Bool). cond c 52 40) (lab_there ∙ h))

  pub flat : b ≡ false → 40 ≡ depth_of (view t)
  flat h = sym (ap (λ (c : Bool). cond c 52 40) (lab_there ∙ h))
