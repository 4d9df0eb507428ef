use native.Mathlib.Omega.{arith}
use mathlib.Core.Path.{refl, ap}
use lib.Seq.{take_all}
use Rattle.settings_text.specs.Text.{pairs_text}
use Rattle.saved.proofs.Laying.{lays_none, lays_then, lays_more, lays_as}
use Rattle.saved.proofs.Pieces.{pairs_more}
use borrow.Author.Rules.{rules}
use Rattle.saved.proofs.writing.lay_pairs.Goals as goal

pub loop-t-init : goal.loop-t-init
unfolding pairs_text
loop-t-init c = (refl, lays_none)

pub lay_pair-k-requires : goal.lay_pair-k-requires
lay_pair-k-requires c = (omega arith, omega arith)

pub loop-t-preserved : goal.loop-t-preserved
loop-t-preserved c =
    let w = c.loop-t in
    let a = c.args in
    (search rules, lays_more (omega arith) (lays_as (pairs_more a.settings w.t (omega arith)) (lays_then w.invariant.1 c.lay_pair-k.ensures)))

pub returns : goal.returns
returns c =
    let w = c.loop-t in
    let a = c.args in
    lays_more (omega arith) (lays_as (ap (pairs_text 0) (take_all w.t a.settings (omega arith))) w.invariant.1)
