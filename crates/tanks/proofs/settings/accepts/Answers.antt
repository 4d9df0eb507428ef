use native.Mathlib.Omega.{arith}
use mathlib.Core.Path.{◌≡◌, refl, sym, ◌∙◌}
use mathlib.Core.Bool.{true}
use lib.ListN.{get_or}
use Rattle.tanks.specs.Settings.{no_setting, share_of, keeps_rule}
use Rattle.runs.specs.Positions.{sum_below, all_at}
use Rattle.runs.proofs.SumLaws.{sum_more}
use Rattle.tanks.proofs.SettingLaws.{keeps_facts, all_keep_grown, accepts_not, accepts_last}
use Rattle.tanks.proofs.settings.accepts.Goals as goal

pub loop-s-init : goal.loop-s-init
unfolding sum_below all_at
loop-s-init c = (refl, omega arith, refl)

pub returns-then-not-keeps_rule : goal.returns-then-not-keeps_rule
returns-then-not-keeps_rule c = accepts_not c.args.settings c.loop-s.s-index (omega arith) (sym c.keeps_rule.ensures ∙ c.if-not-keeps_rule.true)

pub loop-s-preserved : goal.loop-s-preserved
loop-s-preserved c =
    let st = c.args.settings in
    let l = c.loop-s in
    let ok : keeps_rule (get_or st l.s-index no_setting) ≡ true = sym c.keeps_rule.ensures ∙ c.if-not-keeps_rule.false in
    let f = keeps_facts (get_or st l.s-index no_setting) ok in
    (omega (arith, sum_more (share_of st) l.s-index), omega (arith, f), all_keep_grown st l.s-index l.invariant.2 ok)

pub returns : goal.returns
returns c = accepts_last c.args.settings c.loop-s.sum c.loop-s.s-index (omega arith) c.loop-s.invariant.0 c.loop-s.invariant.2
