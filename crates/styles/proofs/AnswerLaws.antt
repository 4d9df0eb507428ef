-- A set as an answer: it tells the marks and their order, and a rank finds each of them.
use Rattle.std.proofs.Common.{◌≡◌, ℕ, zero, suc, ◌+◌, ◌-◌, ◌<◌, ◌≤◌, List, [], ◌∷◌, ◌++◌, length, get_or, None, Some, take, drop, set, replicate, sym, refl, ap, ◌∙◌, add-one, arith, take_all, drop-cons, take_at}
use Rattle.laws.proofs.Lists.{filled_step}
use Rattle.styles.specs.declared.Mark.{Mark}
use Rattle.styles.specs.declared.Styles.{Styles}
use Rattle.styles.specs.Marks.{blank}
use Rattle.styles.specs.Answers.{styles_of, rank_of}

-- the answer determines the set and its order
pub styles_inj : (a b : List Mark) → styles_of a ≡ styles_of b → a ≡ b
styles_inj a b e =
    let n : length a ≡ length b = omega (arith, ap (λ (s : Styles). s.count) e) in
    let m : a ++ replicate (64 - length a) blank ≡ b ++ replicate (64 - length b) blank = ap (λ (s : Styles). s.marks) e in
    sym (take_at a (replicate (64 - length a) blank) (length a) refl)
    ∙ ap (take (length a)) m
    ∙ take_at b (replicate (64 - length b) blank) (length a) (sym n)

-- ---- by rank
pub rank_here : (l : List Mark) (j : ℕ) (d : Mark) → j < length l → rank_of l j ≡ Some (get_or l j d)
unfolding rank_of
rank_here [] j d h = absurd (omega arith)
rank_here (m ∷ ms) zero d h = refl
rank_here (m ∷ ms) (suc j) d h = rank_here ms j d (omega arith)

pub rank_past : (l : List Mark) (j : ℕ) → length l ≤ j → rank_of l j ≡ None
unfolding rank_of
rank_past [] j h = refl
rank_past (m ∷ ms) zero h = absurd (omega arith)
rank_past (m ∷ ms) (suc j) h = rank_past ms j (omega arith)

-- ---- a turn of the walk over a set
module _ (l : List Mark) (w : ℕ) (x : Mark) (rest : List Mark) (here : drop w l ≡ x ∷ rest) (room : w < 64) (held : w < length l) where
  same : get_or l w x ∷ drop (suc w) l ≡ x ∷ rest
  same = sym (drop-cons l w x held) ∙ here

  pub walk_rest : drop (w + 1) l ≡ rest
  walk_rest = rw (add-one w) (ap (drop 1) same)

  pub walk_front : set (take w l ++ replicate (64 - w) blank) w x ≡ take (w + 1) l ++ replicate (64 - (w + 1)) blank
  walk_front =
      rw (add-one w)
      (ap (set (take w l ++ replicate (64 - w) blank) w) (sym (ap (λ (y : List Mark). get_or y 0 x) same)) ∙ filled_step blank x 64 l w held room)

-- the end of the walk
pub walk_end : (l marks : List Mark) (w : ℕ) → w ≡ length l → marks ≡ take w l ++ replicate (64 - w) blank → ◌≡◌ {A = Styles} (record { count = w; marks = marks }) (styles_of l)
walk_end l marks w e f =
    let g : marks ≡ l ++ replicate (64 - length l) blank =
    f ∙ ap (λ (y : List Mark). y ++ replicate (64 - w) blank) (take_all w l (omega arith)) ∙ ap (λ (n : ℕ). l ++ replicate (64 - n) blank) e
    in
    λ i. record { count = e i; marks = g i }
