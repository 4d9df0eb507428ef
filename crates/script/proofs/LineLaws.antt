-- A field's line: what stands behind the field's name is read.
use Rattle.std.specs.Prelude.{Some, None}
use mathlib.Core.Path.{◌≡◌, refl, sym, ap, ◌∙◌}
use mathlib.Core.Bool.{Bool, true, false, cond}
use mathlib.Core.List.{List, ◌++◌}
use Prim.Native.Nat.{ℕ, ◌+◌, ◌-◌, ◌≤◌}
use native.Mathlib.Omega.{arith}
use lib.ListN.{length, take, drop, replicate, length-append}
use lib.Seq.{take-append_seam}
use Rattle.text.specs.Number.{put}
use Rattle.text.specs.Bytes.{starts_of}
use Rattle.text.proofs.Prefix.{starts_length, rest_part}
use Rattle.laws.proofs.Lists.{drop_filling}
use Rattle.script.specs.declared.Name.{Name}
use Rattle.script.specs.Grammar.{Field, spelled_of, spelling}
use Rattle.script.specs.Reading.{start_of, after_name, NoValue, HasValue}

-- a name spells its bytes, is as long as they are, and is within its places
module _ {n : Name} (t : List ℕ) (e : n ≡ spelling t) where
  pub name_spells : spelled_of n ≡ t
  unfolding spelling
  name_spells = ap spelled_of e ∙ take-append_seam t (replicate (16 - length t) 0)

  pub name_length : n.len ≡ length t
  unfolding spelling
  name_length = ap (λ (m : Name). m.len) e

  pub name_fits : n.len ≤ length n.text
  unfolding spelling
  name_fits = omega (arith, name_length, ap (λ (m : Name). length m.text) e, length-append t (replicate (16 - length t) 0))

-- bytes that are put at the front of sixteen zeros are a name
pub name_put : (out t : List ℕ) (n : ℕ) → n ≡ 0 + length t → out ≡ put (replicate 16 0) 0 t → ◌≡◌ {A = Name} (record { text = out; len = n }) (spelling t)
unfolding spelling
name_put out t n e f =
    let g : 0 + length t ≡ length t = omega arith in
    let h : out ≡ t ++ replicate (16 - length t) 0 = f ∙ ap (λ (k : ℕ). t ++ drop k (replicate 16 0)) g ∙ ap (λ (l : List ℕ). t ++ l) (drop_filling 0 16 (length t)) in
    let k = e ∙ g in
    λ i. record { text = h i; len = k i }

started : (b : Bool) (n k : ℕ) → cond b (Some n) None ≡ Some k → (b ≡ true) × (n ≡ k)
started true n k e = (refl, (cc))
started false n k e = let z : ◌≡◌ {A = ℕ} 0 1 = cc in absurd (omega arith)

not_started : (b : Bool) (n : ℕ) → cond b (Some n) None ≡ None → b ≡ false
not_started true n e = cc
not_started false n e = refl

module _ (f : Field) (line : List ℕ) where
  pub start_here : (k : ℕ) → start_of f line ≡ Some k → (starts_of line f.name ≡ true) × (length f.name ≡ k)
  unfolding start_of
  start_here k e = started (starts_of line f.name) (length f.name) k e

  pub start_fits : (k : ℕ) → start_of f line ≡ Some k → k ≤ length line
  start_fits k e = let s = start_here k e in omega (arith, s.1, starts_length line f.name s.0)

  pub start_value : (k : ℕ) → start_of f line ≡ Some k → HasValue f line (take (length line - k) (drop k line))
  start_value k e =
      let s = start_here k e in
      record { starts = s.0; is = rest_part k line ∙ ap (λ (j : ℕ). drop j line) (sym s.1) }

  pub start_none : start_of f line ≡ None → NoValue f line
  unfolding start_of
  start_none e = not_started (starts_of line f.name) (length f.name) e

  -- what stands behind the name is read, in whatever way
  pub name_here : {A : Type 0} (bad : A) (way : List ℕ → A) (value : List ℕ) → HasValue f line value → after_name f bad way line ≡ way value
  name_here bad way value h = ap (λ (b : Bool). cond b (way (drop (length f.name) line)) bad) h.starts ∙ ap way (sym h.is)

  pub name_none : {A : Type 0} (bad : A) (way : List ℕ → A) → NoValue f line → after_name f bad way line ≡ bad
  name_none bad way h = ap (λ (b : Bool). cond b (way (drop (length f.name) line)) bad) h
