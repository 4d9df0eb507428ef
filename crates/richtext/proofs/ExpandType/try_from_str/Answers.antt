-- `ExpandType::try_from_str` meets its contract: each answer rests on the tests that led to it. Assumes nothing.
use Rattle.std.proofs.Common.{◌≡◌, List, ℕ, Bool, true, false, sym, ◌∙◌}
use lib.Dec.{eqb}
use lib.Pointwise.{pointwise}
use Rattle.text.specs.Bytes.{same_of}
use Rattle.richtext.specs.Types.{word}
use Rattle.richtext.specs.declared.ExpandType.TheVariants.{Before, After, Both, None}
use Rattle.richtext.proofs.Laws.{same_said}
use Rattle.richtext.proofs.ExpandType.try_from_str.Goals as goal

-- what the test of a word told
told : (s t : List ℕ) {w : List ℕ} {b c : Bool} → b ≡ pointwise eqb s w → w ≡ t → b ≡ c → same_of s t ≡ c
told s t e f g = rw (← f) (same_said s _ _ (sym g ∙ e))

pub returns-then-eq : goal.returns-then-eq
returns-then-eq c =
    let h1 : same_of c.args.s.now (word Before) ≡ true = told c.args.s.now (word Before) c.eq.ensures c.as_slice.ensures c.if-eq.true in
    rw (h1)

pub returns-then-eq-2 : goal.returns-then-eq-2
returns-then-eq-2 c =
    let h1 : same_of c.args.s.now (word Before) ≡ false = told c.args.s.now (word Before) c.eq.ensures c.as_slice.ensures c.if-eq.false in
    let h2 : same_of c.args.s.now (word After) ≡ true = told c.args.s.now (word After) c.eq-2.ensures c.as_slice-2.ensures c.if-eq-2.true in
    rw (h1, h2)

pub returns-then-eq-3 : goal.returns-then-eq-3
returns-then-eq-3 c =
    let h1 : same_of c.args.s.now (word Before) ≡ false = told c.args.s.now (word Before) c.eq.ensures c.as_slice.ensures c.if-eq.false in
    let h2 : same_of c.args.s.now (word After) ≡ false = told c.args.s.now (word After) c.eq-2.ensures c.as_slice-2.ensures c.if-eq-2.false in
    let h3 : same_of c.args.s.now (word Both) ≡ true = told c.args.s.now (word Both) c.eq-3.ensures c.as_slice-3.ensures c.if-eq-3.true in
    rw (h1, h2, h3)

pub returns-then-eq-4 : goal.returns-then-eq-4
returns-then-eq-4 c =
    let h1 : same_of c.args.s.now (word Before) ≡ false = told c.args.s.now (word Before) c.eq.ensures c.as_slice.ensures c.if-eq.false in
    let h2 : same_of c.args.s.now (word After) ≡ false = told c.args.s.now (word After) c.eq-2.ensures c.as_slice-2.ensures c.if-eq-2.false in
    let h3 : same_of c.args.s.now (word Both) ≡ false = told c.args.s.now (word Both) c.eq-3.ensures c.as_slice-3.ensures c.if-eq-3.false in
    let h4 : same_of c.args.s.now (word None) ≡ true = told c.args.s.now (word None) c.eq-4.ensures c.as_slice-4.ensures c.if-eq-4.true in
    rw (h1, h2, h3, h4)

pub returns : goal.returns
returns c =
    let h1 : same_of c.args.s.now (word Before) ≡ false = told c.args.s.now (word Before) c.eq.ensures c.as_slice.ensures c.if-eq.false in
    let h2 : same_of c.args.s.now (word After) ≡ false = told c.args.s.now (word After) c.eq-2.ensures c.as_slice-2.ensures c.if-eq-2.false in
    let h3 : same_of c.args.s.now (word Both) ≡ false = told c.args.s.now (word Both) c.eq-3.ensures c.as_slice-3.ensures c.if-eq-3.false in
    let h4 : same_of c.args.s.now (word None) ≡ false = told c.args.s.now (word None) c.eq-4.ensures c.as_slice-4.ensures c.if-eq-4.false in
    rw (h1, h2, h3, h4)
