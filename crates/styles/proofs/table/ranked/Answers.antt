-- The j-th mark picked is the table's at the j-th set bit, and the ones of a set within the table are as many as its marks.
use Rattle.std.proofs.Common.{◌≡◌, ℕ, ◌^◌, ◌<◌, ◌≤◌, List, length, get_or, None, Some, take, sym, ap, ◌∙◌, arith, length-take, get_or-take, pow_mono, rules}
use lib.Count.{ones}
use Rattle.styles.specs.declared.Mark.{Mark}
use Rattle.styles.specs.Marks.{blank}
use Rattle.styles.specs.Bits.{pick, NthBit}
use Rattle.styles.specs.Answers.{rank_of}
use Rattle.styles.proofs.CountLaws.{pick_length}
use Rattle.styles.proofs.RankLaws.{nth_of, nth_none, nth_held, nth_within, pick_nth}
use Rattle.styles.proofs.AnswerLaws.{rank_here, rank_past}
use Rattle.styles.proofs.table.ranked.Goals as goal

module _ (t : List Mark) (n s j i : ℕ) (long : length t ≡ 64) (few : n ≤ 64) (within : s < 2 ^ n) (nth : NthBit s j i) where
  full : length (take n t) ≡ n
  full = omega (arith, length-take n t)

  held : length (pick (take n t) s) ≡ ones s
  held = pick_length (take n t) s (rw full within)

  fits : s < 2 ^ 64
  fits = omega (arith, pow_mono {i = n} {j = 64} few)

  here : i < 64 → Some (get_or t i blank) ≡ rank_of (pick (take n t) s) j
  here h =
      let a = nth_of s j i nth h in
      let k = nth_within n s j i within a in
      ap Some (sym (pick_nth (take n t) s j i blank (omega (arith, full)) a ∙ get_or-take n t i blank k))
      ∙ sym (rank_here (pick (take n t) s) j blank (omega (arith, held, nth_held s j i a)))

  past : 64 ≤ i → None ≡ rank_of (pick (take n t) s) j
  past h = sym (rank_past (pick (take n t) s) j (omega (arith, held, nth_none s j i fits nth h)))

pub returns-then-i-lt64 : goal.returns-then-i-lt64
returns-then-i-lt64 c = here c.args.table c.args.n c.args.set c.args.j _ (search rules) (omega arith) (omega arith) c.nth_bit-i.ensures (omega arith)

pub returns : goal.returns
returns c = past c.args.table c.args.n c.args.set c.args.j _ (search rules) (omega arith) (omega arith) c.nth_bit-i.ensures (omega arith)
