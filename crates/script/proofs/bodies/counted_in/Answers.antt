use mathlib.Core.Path.{◌≡◌, sym, ap, ap₂, ◌∙◌}
use mathlib.Core.Bool.{cond}
use mathlib.Core.List.{List}
use Prim.Native.Nat.{ℕ, suc, ◌+◌, ◌≤◌, ◌<◌}
use native.Mathlib.Omega.{arith}
use lib.Dec.{eqb}
use lib.ListN.{length, drop, get_or, drop_of_length-le}
use lib.Seq.{drop-cons}
use Rattle.script.specs.Lines.{counted_of}
use Rattle.script.specs.Bodies.{counted_in}
use Rattle.script.proofs.bodies.counted_in.Goals as goal

-- one byte more
one_more : (part : List ℕ) (i n k : ℕ) → i < length part → k ≡ cond (eqb (get_or part i 0) 10) (counted_of n) n → counted_in n (drop i part) ≡ counted_in k (drop (i + 1) part)
unfolding counted_in
one_more part i n k h e =
    let s : suc i ≡ i + 1 = omega arith in
    ap (counted_in n) (drop-cons part i 0 h) ∙ ap₂ (λ (m : ℕ) (j : ℕ). counted_in m (drop j part)) (sym e) s

-- none is left
all-counted : (part : List ℕ) (i n : ℕ) → length part ≤ i → counted_in n (drop i part) ≡ n
unfolding counted_in
all-counted part i n h = ap (counted_in n) (drop_of_length-le part {i = i} h)

pub loop-byte-preserved : goal.loop-byte-preserved
loop-byte-preserved c =
    let w = c.loop-byte in
    w.invariant ∙ one_more c.args.part.now w.byte-index w.count _ c.loop-byte-test.true c.counted_byte-count.ensures

pub returns : goal.returns
returns c = let w = c.loop-byte in sym (w.invariant ∙ all-counted c.args.part.now w.byte-index w.count c.loop-byte-test.false)
