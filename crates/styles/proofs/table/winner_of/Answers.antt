use Rattle.std.proofs.Common.{◌≡◌, ℕ, ◌^◌, ◌<◌, List, ◌∷◌, length, get_or, take, ap, ◌∙◌, subst, arith, length-take, get_or-take, rules}
use lib.Count.{ones, count_trailing_zeros}
use Rattle.styles.specs.declared.Mark.{Mark}
use Rattle.styles.specs.Bits.{pick, without_bit}
use Rattle.styles.specs.Marks.{Sorted, blank}
use Rattle.styles.proofs.CountLaws.{pick_first, pick_past, lowest_fewer, without_le}
use Rattle.styles.proofs.WalkLaws.{Walked, walk_begun, walk_here, walk_other, walk_over, sorted_pick}
use Rattle.styles.proofs.table.winner_of.Goals as goal

pub loop-i-init : goal.loop-i-init
loop-i-init c = (omega arith, c.lowest-i.ensures.0, walk_begun _ _)

pub loop-i-smaller-then-m-key : goal.loop-i-smaller-then-m-key
loop-i-smaller-then-m-key c =
    ((let h : let l = c.loop-i in
    let a = c.args in
    let rest = c.without_bit-s.result in
    (ones rest < ones l.s)
    × (rest < 2 ^ 64)
    × (Sorted (pick (take a.n a.table) a.set))
    × Walked a.key (pick (take a.n a.table) a.set) (get_or a.table l.i blank ∷ pick (take a.n a.table) rest) l.best = let l = c.loop-i in
    let a = c.args in
    let long : length a.table ≡ 64 = search rules in
    let t = take a.n a.table in
    let full : length t ≡ a.n = omega (arith, length-take a.n a.table) in
    let i : ℕ = count_trailing_zeros 64 l.s in
    let e : l.i ≡ i = l.invariant.1 in
    let f : c.without_bit-s.result ≡ without_bit i l.s = c.without_bit-s.ensures ∙ ap (λ (x : ℕ). without_bit x l.s) e in
    let g : pick t l.s ≡ get_or a.table i blank ∷ pick t (without_bit i l.s) =
    pick_first 64 t l.s blank (omega arith) (omega arith) ∙ ap (λ (x : Mark). x ∷ pick t (without_bit i l.s)) (get_or-take a.n a.table i blank (omega arith))
    in
    rw (e, f) (
      omega (arith, lowest_fewer 64 l.s (omega arith)),
      omega (arith, without_le i l.s),
      sorted_pick t a.set c.requires.1,
      subst (λ (x : List Mark). Walked a.key (pick t a.set) x l.best) g l.invariant.2,
    ) in h)).0

pub loop-i-preserved-then-m-key : goal.loop-i-preserved-then-m-key
loop-i-preserved-then-m-key c =
    let t = (let h : let l = c.loop-i in
    let a = c.args in
    let rest = c.without_bit-s.result in
    (ones rest < ones l.s)
    × (rest < 2 ^ 64)
    × (Sorted (pick (take a.n a.table) a.set))
    × Walked a.key (pick (take a.n a.table) a.set) (get_or a.table l.i blank ∷ pick (take a.n a.table) rest) l.best = let l = c.loop-i in
    let a = c.args in
    let long : length a.table ≡ 64 = search rules in
    let t = take a.n a.table in
    let full : length t ≡ a.n = omega (arith, length-take a.n a.table) in
    let i : ℕ = count_trailing_zeros 64 l.s in
    let e : l.i ≡ i = l.invariant.1 in
    let f : c.without_bit-s.result ≡ without_bit i l.s = c.without_bit-s.ensures ∙ ap (λ (x : ℕ). without_bit x l.s) e in
    let g : pick t l.s ≡ get_or a.table i blank ∷ pick t (without_bit i l.s) =
    pick_first 64 t l.s blank (omega arith) (omega arith) ∙ ap (λ (x : Mark). x ∷ pick t (without_bit i l.s)) (get_or-take a.n a.table i blank (omega arith))
    in
    rw (e, f) (
      omega (arith, lowest_fewer 64 l.s (omega arith)),
      omega (arith, without_le i l.s),
      sorted_pick t a.set c.requires.1,
      subst (λ (x : List Mark). Walked a.key (pick t a.set) x l.best) g l.invariant.2,
    ) in h) in (t.1, c.lowest-i-in-loop-i.ensures.0, walk_here t.2 t.3 c.if-m-key.true)

pub loop-i-smaller : goal.loop-i-smaller
loop-i-smaller c =
    ((let h : let l = c.loop-i in
    let a = c.args in
    let rest = c.without_bit-s.result in
    (ones rest < ones l.s)
    × (rest < 2 ^ 64)
    × (Sorted (pick (take a.n a.table) a.set))
    × Walked a.key (pick (take a.n a.table) a.set) (get_or a.table l.i blank ∷ pick (take a.n a.table) rest) l.best = let l = c.loop-i in
    let a = c.args in
    let long : length a.table ≡ 64 = search rules in
    let t = take a.n a.table in
    let full : length t ≡ a.n = omega (arith, length-take a.n a.table) in
    let i : ℕ = count_trailing_zeros 64 l.s in
    let e : l.i ≡ i = l.invariant.1 in
    let f : c.without_bit-s.result ≡ without_bit i l.s = c.without_bit-s.ensures ∙ ap (λ (x : ℕ). without_bit x l.s) e in
    let g : pick t l.s ≡ get_or a.table i blank ∷ pick t (without_bit i l.s) =
    pick_first 64 t l.s blank (omega arith) (omega arith) ∙ ap (λ (x : Mark). x ∷ pick t (without_bit i l.s)) (get_or-take a.n a.table i blank (omega arith))
    in
    rw (e, f) (
      omega (arith, lowest_fewer 64 l.s (omega arith)),
      omega (arith, without_le i l.s),
      sorted_pick t a.set c.requires.1,
      subst (λ (x : List Mark). Walked a.key (pick t a.set) x l.best) g l.invariant.2,
    ) in h)).0

pub loop-i-preserved : goal.loop-i-preserved
loop-i-preserved c =
    let t = (let h : let l = c.loop-i in
    let a = c.args in
    let rest = c.without_bit-s.result in
    (ones rest < ones l.s)
    × (rest < 2 ^ 64)
    × (Sorted (pick (take a.n a.table) a.set))
    × Walked a.key (pick (take a.n a.table) a.set) (get_or a.table l.i blank ∷ pick (take a.n a.table) rest) l.best = let l = c.loop-i in
    let a = c.args in
    let long : length a.table ≡ 64 = search rules in
    let t = take a.n a.table in
    let full : length t ≡ a.n = omega (arith, length-take a.n a.table) in
    let i : ℕ = count_trailing_zeros 64 l.s in
    let e : l.i ≡ i = l.invariant.1 in
    let f : c.without_bit-s.result ≡ without_bit i l.s = c.without_bit-s.ensures ∙ ap (λ (x : ℕ). without_bit x l.s) e in
    let g : pick t l.s ≡ get_or a.table i blank ∷ pick t (without_bit i l.s) =
    pick_first 64 t l.s blank (omega arith) (omega arith) ∙ ap (λ (x : Mark). x ∷ pick t (without_bit i l.s)) (get_or-take a.n a.table i blank (omega arith))
    in
    rw (e, f) (
      omega (arith, lowest_fewer 64 l.s (omega arith)),
      omega (arith, without_le i l.s),
      sorted_pick t a.set c.requires.1,
      subst (λ (x : List Mark). Walked a.key (pick t a.set) x l.best) g l.invariant.2,
    ) in h) in (t.1, c.lowest-i-in-loop-i.ensures.0, walk_other t.2 t.3 c.if-m-key.false)

pub returns : goal.returns
returns c =
    let l = c.loop-i in
    let a = c.args in
    let long : length a.table ≡ 64 = search rules in
    let t = take a.n a.table in
    let full : length t ≡ a.n = omega (arith, length-take a.n a.table) in
    walk_over (subst (λ (x : List Mark). Walked a.key (pick t a.set) x l.best) (pick_past 64 t l.s (omega arith) (omega arith)) l.invariant.2)
