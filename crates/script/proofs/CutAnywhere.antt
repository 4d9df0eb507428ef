-- However an input is cut, the reader comes to the same: bytes with no newline among them and those behind them are as good as both at once.
use mathlib.Core.Path.{◌≡◌, refl, sym, ap, ap₂, ◌∙◌}
use mathlib.Core.Bool.{Bool, false, cond, true≢false}
use mathlib.Core.List.{List, [], ◌∷◌, ◌++◌, append_assoc}
use Prim.Native.Nat.{ℕ}
use native.Mathlib.Decide.{dec_lt, ℕ_discrete}
use native.Mathlib.Omega.{arith}
use lib.ListN.{length, take, length-take}
use lib.Seq.{take_all, take-append-le, take-take}
use Rattle.script.specs.declared.Progress.{Progress}
use Rattle.script.specs.declared.Read.{Read}
use Rattle.script.specs.Reading.{line_of}
use Rattle.script.specs.Lines.{line_front, has_end, grown_of, State, event_of, turned_of, read_of, brings_of, after_of}
use Rattle.text.proofs.Finding.{front_past, front_none, held_here, held_past}

no_end_cons : (c : ℕ) (cs : List ℕ) → has_end (c ∷ cs) ≡ false → (c ≡ 10 → ⊥) × (has_end cs ≡ false)
no_end_cons c cs e =
    elim (ℕ_discrete c 10) [
      | yes h ↦ absurd (true≢false (sym (held_here 10 c cs h) ∙ e))
      | no h ↦ (h, sym (held_past 10 c cs h) ∙ e)
    ]

-- bytes with no newline among them
front_all : (a : List ℕ) → has_end a ≡ false → line_front a ≡ a
front_all [] e = front_none 10
front_all (c ∷ cs) e = let n = no_end_cons c cs e in front_past 10 c cs n.0 ∙ ap (λ (t : List ℕ). c ∷ t) (front_all cs n.1)

front_append : (a b : List ℕ) → has_end a ≡ false → line_front (a ++ b) ≡ a ++ line_front b
front_append [] b e = refl
front_append (c ∷ cs) b e = let n = no_end_cons c cs e in front_past 10 c (cs ++ b) n.0 ∙ ap (λ (t : List ℕ). c ∷ t) (front_append cs b n.1)

end_append : (a b : List ℕ) → has_end a ≡ false → has_end (a ++ b) ≡ has_end b
end_append [] b e = refl
end_append (c ∷ cs) b e = let n = no_end_cons c cs e in held_past 10 c (cs ++ b) n.0 ∙ end_append cs b n.1

-- what is kept of a text, and more behind it
take_kept : {A : Type 0} (n : ℕ) (x y : List A) → take n (take n x ++ y) ≡ take n (x ++ y)
take_kept n x y =
    elim (dec_lt (length x) n) [
      | yes h ↦ ap (λ (t : List _). take n (t ++ y)) (take_all n x (omega arith))
      | no h ↦
          take-append-le n (take n x) y (omega (arith, length-take n x)) ∙ take-take n n x (omega arith) ∙ sym (take-append-le n x y (omega arith))
    ]

module _ (s : State) (a b : List ℕ) (none : has_end a ≡ false) where
  -- the bytes with no newline only lengthen the line
  after_part_lem : after_of s a ≡ record { held = grown_of s.held a; call = s.call; newlines = s.newlines }
  unfolding after_of
  after_part_lem = rw none

  grown_append : grown_of (grown_of s.held a) b ≡ grown_of s.held (a ++ b)
  grown_append =
      ap (λ (t : List ℕ). take 65 (take 65 (s.held ++ t) ++ line_front b)) (front_all a none)
      ∙ take_kept 65 (s.held ++ a) (line_front b)
      ∙ ap (take 65) (append_assoc s.held a (line_front b) ∙ ap (λ (t : List ℕ). s.held ++ t) (sym (front_append a b none)))

-- a function of what a line makes of the call and of the state after it
module _ {A : Type 0} (f : Read → State → A) (s : State) where
  -- by whether there is a newline, and by what is kept of the line
  line_by_lem : Bool → List ℕ → A
  line_by_lem e t =
      let read : Read = cond e (line_of s.call t) (record { call = s.call; progress = Progress.More }) in
      f read (cond e (turned_of s.newlines read.progress read.call) (record { held = t; call = s.call; newlines = s.newlines }))

  -- a line counts by its bytes in front of the newline, and by whether there is one
  pub same_line : (a b : List ℕ) → has_end a ≡ has_end b → line_front a ≡ line_front b → f (read_of s a) (after_of s a) ≡ f (read_of s b) (after_of s b)
  unfolding after_of line_by_lem
  same_line a b e g = ap₂ (λ (h : Bool) (t : List ℕ). line_by_lem h (take 65 (s.held ++ t))) e g

  -- it may be taken in two parts
  pub line_cut : (a b : List ℕ) → has_end a ≡ false → f (read_of (after_of s a) b) (after_of (after_of s a) b) ≡ f (read_of s (a ++ b)) (after_of s (a ++ b))
  unfolding after_of line_by_lem
  line_cut a b none = ap (λ (t : State). f (read_of t b) (after_of t b)) (after_part_lem s a b none) ∙ ap₂ line_by_lem (sym (end_append a b none)) (grown_append s a b none)

module _ (s : State) (a b : List ℕ) (none : has_end a ≡ false) where
  pub read_cut : read_of (after_of s a) b ≡ read_of s (a ++ b)
  read_cut = line_cut (λ q t. q) s a b none

  pub brings_cut : brings_of (after_of s a) b ≡ brings_of s (a ++ b)
  unfolding brings_of
  brings_cut = line_cut (λ q t. event_of q.progress) s a b none

  pub after_cut : after_of (after_of s a) b ≡ after_of s (a ++ b)
  after_cut = line_cut (λ q t. t) s a b none
