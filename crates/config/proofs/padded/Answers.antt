use mathlib.Core.Path.{◌≡◌, refl, ◌∙◌}
use native.Mathlib.Numerals.{add-one}
use native.Mathlib.Omega.{arith}
use lib.ListN.{length}
use lib.Seq.{take_all}
use borrow.Author.Rules.{rules}
use Rattle.laws.proofs.Lists.{filled_step}
use Rattle.config.proofs.padded.Goals as goal

pub loop-i-init : goal.loop-i-init
loop-i-init c = refl

pub loop-i-preserved : goal.loop-i-preserved
loop-i-preserved c = rw (c.loop-i.invariant, add-one) (filled_step 0 0 32 c.args.key.now c.loop-i.i (search rules) (omega arith))

pub returns : goal.returns
returns c = let k = c.args.key.now in c.loop-i.invariant ∙ (let e : c.loop-i.i ≡ length k = omega arith in rw (e, take_all (length k) k (omega arith)))
