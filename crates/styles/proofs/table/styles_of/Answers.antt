use Rattle.std.proofs.Common.{◌≡◌, ℕ, ◌<◌, List, ◌∷◌, length, get_or, take, drop, set, replicate, sym, refl, ap, ◌∙◌, arith, length-take, get_or-take, rules}
use lib.Count.{count_trailing_zeros}
use Rattle.styles.specs.declared.Mark.{Mark}
use Rattle.styles.specs.Bits.{pick, without_bit}
use Rattle.styles.specs.Marks.{blank}
use Rattle.styles.proofs.CountLaws.{pick_first, pick_length, lowest_less, lowest_fewer, without_le}
use Rattle.styles.proofs.AnswerLaws.{walk_rest, walk_front, walk_end}
use Rattle.styles.proofs.table.styles_of.Goals as goal

pub loop-w-init : goal.loop-w-init
loop-w-init c = (omega arith, omega arith, refl, ap (replicate 64) c.blank-b.ensures)

pub offset_bounds-table-i : goal.offset_bounds-table-i
offset_bounds-table-i c =
    omega (
      arith,
      (let h : c.lowest-i.result < c.args.n = let l = c.loop-w in
          omega (arith, lowest_less c.args.n 64 l.s (omega arith) (omega arith) (omega arith)) in h),
    )

pub bounds-table-i : goal.bounds-table-i
bounds-table-i c =
    omega (
      arith,
      (let h : c.lowest-i.result < c.args.n = let l = c.loop-w in
          omega (arith, lowest_less c.args.n 64 l.s (omega arith) (omega arith) (omega arith)) in h),
    )

pub loop-w-preserved : goal.loop-w-preserved
loop-w-preserved c =
    let l = c.loop-w in
    let a = c.args in
    let long : length a.table ≡ 64 = search rules in
    let t = take a.n a.table in
    let full : length t ≡ a.n = omega (arith, length-take a.n a.table) in
    let i : ℕ = count_trailing_zeros 64 l.s in
    let z : i < a.n = lowest_less a.n 64 l.s (omega arith) (omega arith) (omega arith) in
    let e : c.lowest-i.result ≡ i = c.lowest-i.ensures.0 in
    let f : c.without_bit-s.result ≡ without_bit i l.s = c.without_bit-s.ensures ∙ ap (λ (x : ℕ). without_bit x l.s) e in
    let g : drop l.w (pick t a.set) ≡ get_or a.table i blank ∷ pick t (without_bit i l.s) =
    sym l.invariant.2 ∙ pick_first 64 t l.s blank (omega arith) (omega arith) ∙ ap (λ (x : Mark). x ∷ pick t (without_bit i l.s)) (get_or-take a.n a.table i blank z)
    in
    let held : l.w < length (pick t a.set) = omega (arith, pick_length t a.set (rw full (omega arith))) in
    rw (e, f) (
      omega (arith, without_le i l.s),
      omega (arith, lowest_fewer 64 l.s (omega arith)),
      sym (walk_rest (pick t a.set) l.w (get_or a.table i blank) (pick t (without_bit i l.s)) g (omega arith) held),
      ap (λ (x : List Mark). set x l.w (get_or a.table i blank)) l.invariant.3
          ∙ walk_front (pick t a.set) l.w (get_or a.table i blank) (pick t (without_bit i l.s)) g (omega arith) held,
    )

pub returns : goal.returns
returns c =
    let l = c.loop-w in
    let a = c.args in
    let long : length a.table ≡ 64 = search rules in
    let t = take a.n a.table in
    let full : length t ≡ a.n = omega (arith, length-take a.n a.table) in
    let e : l.w ≡ c.count-held.result = omega arith in
    rw (← e) (walk_end (pick t a.set) l.marks l.w (omega (arith, pick_length t a.set (rw full (omega arith)))) l.invariant.3)
