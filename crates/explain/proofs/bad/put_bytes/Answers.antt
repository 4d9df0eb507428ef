use mathlib.Core.Path.{refl}
use mathlib.Core.List.{map}
use lib.Seq.{paste-zero}
use Rattle.explain.specs.Told.{byte_shown}
use Rattle.explain.proofs.Showing.{shown_turn, shown_all}
use Rattle.explain.proofs.bad.put_bytes.Goals as goal

pub loop-i-init : goal.loop-i-init
loop-i-init c = let a = c.args in (refl, paste-zero a.out.now a.at (map byte_shown a.line.now))

pub loop-i-preserved : goal.loop-i-preserved
loop-i-preserved c = shown_turn _ _ c.args.line.now _ _ c.requires c.loop-i-test.true c.byte_shown.ensures c.loop-i.invariant.0 c.loop-i.invariant.1

pub returns : goal.returns
returns c = let a = c.args in shown_all _ _ a.line.now a.at _ c.loop-i-test.false c.loop-i.auto.i-end c.loop-i.invariant.1
