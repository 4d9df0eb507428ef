use mathlib.Core.Path.{ap, ◌∙◌}
use Rattle.std.proofs.Common.{◌≡◌, arith, min}
use Rattle.std.proofs.lemmas.Grind.{common_steps}
use lib.ListN.{take}
use lib.Seq.{take_all}
use Rattle.key_legend.specs.Keys.{lowest_of}
use Rattle.key_legend.proofs.Lowest.{lowest_none, lowest_on, lowest_all}
use Rattle.key_legend.proofs.keys.first_in.Goals as goal

pub loop-m-init : goal.loop-m-init
loop-m-init c = let a = c.args in lowest_none a.whose a.least (take a.t.marks a.t.table)

pub loop-m-preserved : goal.loop-m-preserved
loop-m-preserved c =
    let a = c.args in
    let low : c.min-first.result ≡ min c.loop-m.first c.key_from.result = grind (arith, common_steps) in
    lowest_on a.whose a.least (take a.t.marks a.t.table) c.loop-m.m-index c.loop-m.first _ _ c.loop-m-test.true c.key_from.ensures c.loop-m.invariant low

pub returns : goal.returns
returns c =
    let a = c.args in
    lowest_all a.whose a.least a.t c.requires _ (c.loop-m.invariant ∙ ap (lowest_of a.whose a.least) (take_all c.loop-m.m-index (take a.t.marks a.t.table) c.loop-m-test.false))
