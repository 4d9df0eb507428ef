-- `put_hex` meets its contract: the sixteen digits that `io::hex` writes are the number's text, and `put` puts them.
use native.Mathlib.Omega.{arith}
use mathlib.Core.Path.{◌≡◌, ap, ◌∙◌}
use mathlib.Core.List.{List}
use Prim.Native.Nat.{ℕ}
use lib.ListN.{length, take}
use Rattle.text.specs.Number.{hex_text, put as put_of}
use Rattle.text.proofs.Laws.{digits_hex, length_hex}
use Rattle.text.proofs.put_hex.Goals as goal

pub put-requires : goal.put-requires
put-requires c =
    let written : take c.hex-k.result c.hex-k.new.out ≡ hex_text c.args.n = c.hex-k.ensures.digits ∙ digits_hex _ _ c.ranges.n.fits c.hex-k.ensures.len in
    let sixteen = length_hex c.args.n in
    omega (arith, ap length written)

pub returns : goal.returns
returns c =
    let written : take c.hex-k.result c.hex-k.new.out ≡ hex_text c.args.n = c.hex-k.ensures.digits ∙ digits_hex _ _ c.ranges.n.fits c.hex-k.ensures.len in
    let sixteen = length_hex c.args.n in
    let put = c.put.ensures in
    (omega (arith, ap length written), put.1 ∙ ap (λ (s : List ℕ). put_of c.args.out.now c.args.at s) written)
