-- How long a list can be in a sound state: each other tank claims a run at least, so that one tank holds 505 at most.
use Prim.Native.Nat.{ℕ, zero, suc, ◌+◌, ◌-◌, ◌*◌, ◌≤◌, ◌<◌, max}
use mathlib.Core.Path.{◌≡◌, refl, ap}
use mathlib.Core.Bool.{Bool, true, false, cond}
use mathlib.Core.List.{List, [], ◌∷◌}
use native.Mathlib.Omega.{arith}
use lib.Dec.{leb}
use lib.ListN.{length, length-append}
use borrow.Author.Tests.{le-ltb}
use Rattle.runs.specs.Positions.{sum_below, starts, Stretch, extended, stretches_at, as_numbers}
use Rattle.laws.proofs.Cases.{cond_by}
use Rattle.runs.proofs.SumLaws.{sum_but_one}
use Rattle.styles.specs.declared.Party.{Party}
use Rattle.tank.specs.Rules.{View, alike, runs_held, shown_to}
use Rattle.tank.proofs.NarrowLaws.{shown_fewer}
use Rattle.tanks.specs.declared.Tanks.{Tanks}
use Rattle.tanks.specs.Settings.{claim}
use Rattle.tanks.specs.House.{tank_at, shown_at}
use Rattle.tanks.specs.Pool.{runs_in, tank_in, tank_of, meaning, Sound}
use Rattle.tanks.proofs.SettingLaws.{accepted_at}
use Rattle.tanks.proofs.MeaningLaws.{tank_at_lem, held_is}
use Rattle.lists.specs.Lists.{stretches_over, list_over, range_list, whole_list, list_refusal}
use Rattle.lists.specs.Anchors.{anchors, anchors_number}
use Rattle.lists.proofs.Most.{anchors_most}

-- ---- the runs of one tank
eight_ones : sum_below (λ _. 1) 8 ≡ 8
unfolding sum_below
eight_ones = refl

-- ---- a list names no more stretches than a tank has runs
one_more : (f : ℕ → Bool) (n : ℕ) → 1 ≤ sum_below (starts f) (suc n)
unfolding sum_below starts
one_more f zero = omega arith
one_more f (suc n) = omega (arith, one_more f n)

longer : (b : Bool) (p c : ℕ) (xs : List Stretch) → length (extended b p c xs) ≤ max 1 (length xs + cond b 0 1)
unfolding extended
longer b p c [] = omega arith
longer true p c (x ∷ xs) = omega arith
longer false p c (x ∷ xs) = omega arith

first_one : (f : ℕ → Bool) (b : Bool) (c : ℕ) → length (extended b 0 c []) ≤ sum_below (starts f) 1
unfolding extended sum_below starts
first_one f b c = omega arith

next_one : (f : ℕ → Bool) (q c : ℕ) (xs : List Stretch) → length xs ≤ sum_below (starts f) (suc q)
    → length (extended (f q) (suc q) c xs) ≤ sum_below (starts f) (suc (suc q))
unfolding sum_below starts
next_one f q c xs i = omega (arith, longer (f q) (suc q) c xs, one_more f q)

few_stretches : (f : ℕ → Bool) (count : ℕ → ℕ) (from n : ℕ) → length (stretches_at f count from n) ≤ sum_below (starts f) n
unfolding stretches_at
few_stretches f count from zero = omega arith
few_stretches f count from (suc zero) =
    cond_by (λ (l : List Stretch). length l ≤ sum_below (starts f) 1) (leb from 0) (first_one f (f (0 - 1)) (count 0)) (omega arith)
few_stretches f count from (suc (suc q)) =
    let e : suc q - 1 ≡ q = omega arith in
    cond_by (λ (l : List Stretch). length l ≤ sum_below (starts f) (suc (suc q))) (leb from (suc q))
    (rw e (next_one f q (count (suc q)) (stretches_at f count from (suc q)) (few_stretches f count from (suc q)))) (omega arith)

three_each : (least : ℕ) (xs : List Stretch) → length (as_numbers least xs) ≤ 3 * length xs
unfolding as_numbers
three_each least [] = omega arith
three_each least (x ∷ xs) =
    let last : List ℕ = x.start ∷ x.end ∷ x.marks ∷ [] in
    let three : length (cond (leb least x.marks) last []) ≤ 3 =
    cond_by (λ (l : List ℕ). length l ≤ 3) (leb least x.marks) {x = last} {y = []} (omega arith) (omega arith)
    in
    omega (arith, three_each least xs, length-append (as_numbers least xs) (cond (leb least x.marks) last []), three)

sum_more : (f : ℕ → ℕ) (n m : ℕ) → sum_below f n ≤ sum_below f (n + m)
unfolding sum_below
sum_more f n zero = let e : n + 0 ≡ n = omega arith in rw e (omega arith)
sum_more f n (suc m) = let e : n + suc m ≡ suc (n + m) = omega arith in rw e (omega (arith, sum_more f n m))

pub list_few : (least a b : ℕ) (v : View) → b ≤ v.length → length (list_over least a b v) ≤ 3 * runs_held v
unfolding list_over
list_few least a b v h =
    let e : b + (v.length - b) ≡ v.length = omega arith in
    let m : sum_below (starts (alike v.at)) b ≤ sum_below (starts (alike v.at)) v.length = rw e at (sum_more (starts (alike v.at)) b (v.length - b)) in
    omega (arith, three_each least (stretches_over a b v), few_stretches (alike v.at) (λ p. length (v.at p)) a b, m)

module _ (s : Tanks) (ok : Sound s) (t : ℕ) (h : t < 8) where
  pub runs_505 : runs_in s.heads t ≤ 505
  runs_505 =
      let f = claim s.settings (runs_in s.heads) in
      omega (arith, ok.sum, eight_ones, sum_but_one (λ _. 1) f t 8 h (λ u g _. omega (arith, (accepted_at s.settings ok.rule u g).low)))

  -- ---- its lists
  -- of what a party is shown, which has no more runs than the tank
  shown_505 : (who : Party) → runs_held (shown_at (meaning s) who t) ≤ 505
  shown_505 who = omega (arith, shown_fewer who (tank_at (meaning s) t), held_is s ok t h, runs_505)

  pub most_range : (who : Party) (a b : ℕ) → b ≤ (tank_at (meaning s) t).length → length (range_list a b (shown_at (meaning s) who t)) ≤ 1515
  unfolding shown_to
  most_range who a b g = omega (arith, list_few 0 a b (shown_at (meaning s) who t) g, shown_505 who)

  pub most_whole : (who : Party) → length (whole_list (shown_at (meaning s) who t)) ≤ 1515
  most_whole who = omega (arith, list_few 1 0 (shown_at (meaning s) who t).length (shown_at (meaning s) who t) (omega arith), shown_505 who)

  pub most_anchors : length (anchors (tank_at (meaning s) t)) ≤ 32384
  unfolding tank_of tank_in
  most_anchors = omega (arith, ap (λ (v : View). length (anchors v)) (tank_at_lem s t h), anchors_most (ok.each t h).laid, runs_505)

  -- so that as many records are never too few
  pub room_enough : (room : ℕ) → 32384 ≤ room → anchors_number room (tank_at (meaning s) t) ≡ 0
  unfolding list_refusal
  room_enough room g = rw (le-ltb room (length (anchors (tank_at (meaning s) t))) (omega (arith, most_anchors)))
