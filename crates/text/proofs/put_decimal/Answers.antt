-- `put_decimal` meets its contract: the digits that `io::decimal` writes are the number's decimal text, at most 20 of them, and `put` puts them.
use native.Mathlib.Omega.{arith}
use mathlib.Core.Path.{◌≡◌, ap, ◌∙◌}
use mathlib.Core.List.{List}
use Prim.Native.Nat.{ℕ, ◌+◌}
use lib.ListN.{length, take}
use Rattle.text.specs.Number.{decimal_text, put as put_of}
use Rattle.text.proofs.Laws.{digits_decimal, length_decimal}
use Rattle.text.proofs.put_decimal.Goals as goal

pub put-requires : goal.put-requires
put-requires c =
    let written : take c.decimal-k.result c.decimal-k.new.out ≡ decimal_text c.args.n = c.decimal-k.ensures.digits ∙ digits_decimal _ _ c.ranges.n.fits c.decimal-k.ensures.len in
    let few = length_decimal _ c.ranges.n.fits in
    omega (arith, ap length written)

pub returns : goal.returns
returns c =
    let written : take c.decimal-k.result c.decimal-k.new.out ≡ decimal_text c.args.n = c.decimal-k.ensures.digits ∙ digits_decimal _ _ c.ranges.n.fits c.decimal-k.ensures.len in
    let few = length_decimal _ c.ranges.n.fits in
    let put = c.put.ensures in
    (put.0 ∙ ap (λ (s : List ℕ). c.args.at + length s) written, omega (arith, ap length written), put.1 ∙ ap (λ (s : List ℕ). put_of c.args.out.now c.args.at s) written)
