-- Where the list of marked stretches ends, the last position with a mark does.
use Prim.Native.Nat.{ℕ, zero, suc, ◌+◌, ◌-◌, ◌≤◌, ◌<◌}
use mathlib.Core.Path.{◌≡◌, refl, sym, ap, ◌∙◌}
use mathlib.Core.Bool.{Bool, true, false, cond}
use mathlib.Core.List.{List, [], ◌∷◌, ◌++◌, append-nil}
use native.Mathlib.Decide.{dec_lt}
use native.Mathlib.Omega.{arith}
use lib.Dec.{ltb, leb, eqb}
use lib.ListN.{length, get_or, take, length-append}
use lib.Seq.{get_or-append-add}
use borrow.Author.Tests.{le-leb, lt-leb, le-ltb, eq-eqb, ne_eqb}
use Rattle.runs.specs.Positions.{Stretch, as_numbers}
use Rattle.styles.specs.declared.Mark.{Mark}
use Rattle.styles.specs.declared.Party.{Party}
use Rattle.tank.specs.Rules.{View}
use Rattle.tanks.specs.declared.Tanks.{Tanks}
use Rattle.tanks.specs.House.{shown_at}
use Rattle.tanks.specs.Pool.{meaning, Sound}
use Rattle.lists.specs.declared.Listed.{Listed}
use Rattle.lists.specs.Lists.{Tiles, TilesOver, stretches_over, list_over, whole_list, whole_number, list_refusal, unless_refused}
use Rattle.lists.proofs.Stretches.{stretches_tile}
use Rattle.ask.proofs.AskLaws.{Listed-at, asked_part, asked_count}
use Rattle.ask.proofs.Most.{most_whole}
use Rattle.glance.specs.Glance.{marked_to, marked_end}

-- ---- a list of three numbers to a stretch
-- the end of the last stretch of a list
abbrev pub last_end : List ℕ → ℕ
last_end l = cond (ltb (length l) 2) 0 (get_or l (length l - 2) 0)

-- the end of the first stretch that has a mark
unfoldable first_end : List Stretch → ℕ
first_end [] = 0
first_end (x ∷ xs) = cond (leb 1 x.marks) x.end (first_end xs)

one_more : (l : List ℕ) (a b c : ℕ) → last_end (l ++ (a ∷ b ∷ c ∷ [])) ≡ b
one_more l a b c =
    let n = length-append l (a ∷ b ∷ c ∷ []) in
    let k : length (l ++ (a ∷ b ∷ c ∷ [])) - 2 ≡ length l + 1 = omega (arith, n) in
    ap (λ (t : Bool). cond t 0 (get_or (l ++ (a ∷ b ∷ c ∷ [])) (length (l ++ (a ∷ b ∷ c ∷ [])) - 2) 0)) (le-ltb (length (l ++ (a ∷ b ∷ c ∷ []))) 2 (omega (arith, n)))
    ∙ ap (λ (i : ℕ). get_or (l ++ (a ∷ b ∷ c ∷ [])) i 0) k
    ∙ get_or-append-add l (a ∷ b ∷ c ∷ []) 1 0

one_more_by : (t : Bool) (l : List ℕ) (a b c n : ℕ) → last_end l ≡ n → last_end (l ++ cond t (a ∷ b ∷ c ∷ []) []) ≡ cond t b n
one_more_by true l a b c n e = one_more l a b c
one_more_by false l a b c n e = ap last_end (append-nil l) ∙ e

numbers_end : (xs : List Stretch) → last_end (as_numbers 1 xs) ≡ first_end xs
unfolding as_numbers first_end
numbers_end [] = refl
numbers_end (x ∷ xs) = one_more_by (leb 1 x.marks) (as_numbers 1 xs) x.start x.end x.marks (first_end xs) (numbers_end xs)

-- ---- positions
-- positions without marks don't count
quiet : (at : ℕ → List Mark) (n k : ℕ) → ((p : ℕ) → n ≤ p → p < n + k → length (at p) ≡ 0) → marked_to at (n + k) ≡ marked_to at n
unfolding marked_to
quiet at n zero h = let e : n + 0 ≡ n = omega arith in ap (marked_to at) e
quiet at n (suc k) h =
    let e : n + suc k ≡ suc (n + k) = omega arith in
    ap (marked_to at) e
    ∙ ap (λ (t : Bool). cond t (marked_to at (n + k)) (suc (n + k))) (eq-eqb (length (at (n + k))) 0 (h (n + k) (omega arith) (omega arith)))
    ∙ quiet at n k (λ p g l. h p g (omega arith))

-- one with a mark does
loud : (at : ℕ → List Mark) (p : ℕ) → 1 ≤ length (at p) → marked_to at (suc p) ≡ suc p
unfolding marked_to
loud at p h = ap (λ (t : Bool). cond t (marked_to at p) (suc p)) (ne_eqb (length (at p)) 0 (λ z. omega arith))

tiled_end : (v : View) (xs : List Stretch) (b : ℕ) → TilesOver 0 b v xs → first_end xs ≡ marked_to v.at b
unfolding Tiles first_end marked_to
tiled_end v [] zero h = refl
tiled_end v [] (suc b) h = absurd (omega arith)
tiled_end v (x ∷ xs) b h =
    let m = h.0 in
    elim (dec_lt 0 x.marks) [
      | yes k ↦
          let e : suc (b - 1) ≡ b = omega (arith, m.last, m.some) in
          ap (λ (t : Bool). cond t x.end (first_end xs)) (le-leb 1 x.marks k)
          ∙ m.last
          ∙ sym e
          ∙ sym (loud v.at (b - 1) (omega (arith, k, m.counted (b - 1) (omega (arith, m.last, m.some)) (omega (arith, m.last, m.some)))))
          ∙ ap (marked_to v.at) e
      | no k ↦
          let e : x.start + (b - x.start) ≡ b = omega (arith, m.last, m.some) in
          ap (λ (t : Bool). cond t x.end (first_end xs)) (lt-leb 1 x.marks (omega (arith, k)))
          ∙ tiled_end v xs x.start h.1
          ∙ sym (quiet v.at x.start (b - x.start) (λ p g l. omega (arith, k, m.counted p g (omega (arith, l, e, m.last)))))
          ∙ ap (marked_to v.at) e
    ]

pub whole_end : (v : View) → last_end (whole_list v) ≡ marked_end v
unfolding list_over
whole_end v = numbers_end (stretches_over 0 v.length v) ∙ tiled_end v (stretches_over 0 v.length v) v.length (stretches_tile 0 v.length v)

-- ---- the list that a question fills, in a buffer that is always long enough
module _ (s : Tanks) (ok : Sound s) (t : ℕ) (h : t < 8) (who : Party) (out : List ℕ) (r : Listed) (last : List ℕ) (room : 1515 ≤ length out)
    (said : Listed-at (meaning s) t who (whole_number (length out)) whole_list out r last)
  where
    listed_is : take r.count last ≡ whole_list (shown_at (meaning s) who t)
    unfolding list_refusal
    listed_is =
        let v = shown_at (meaning s) who t in
        asked_part (meaning s) t who (whole_number (length out)) whole_list out r last said
        ∙ ap (λ (b : Bool). cond b [] (unless_refused (whole_number (length out) v) (whole_list v))) (lt-leb 8 t h)
        ∙ ap (λ (b : Bool). unless_refused (cond (eqb 0 0) (cond b 11 0) 0) (whole_list v)) (le-ltb (length out) (length (whole_list v)) (omega (arith, room, most_whole s ok t h who)))

    pub listed_count : r.count ≡ length (take r.count last)
    listed_count = asked_count (meaning s) t who (whole_number (length out)) whole_list out r last said

    pub listed_few : r.count ≤ 1515
    listed_few = omega (arith, listed_count, ap length listed_is, most_whole s ok t h who)

    pub listed_end : last_end (take r.count last) ≡ marked_end (shown_at (meaning s) who t)
    listed_end = ap last_end listed_is ∙ whole_end (shown_at (meaning s) who t)
