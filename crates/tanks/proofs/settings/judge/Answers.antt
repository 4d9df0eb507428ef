-- `judge` meets its contract: 9 is asked before 10 as in the definition, and a count within its limit is small enough for the sum.
use native.Mathlib.Omega.{arith}
use mathlib.Core.Path.{sym}
use Rattle.tanks.specs.Pool.{runs_in}
use Rattle.tanks.proofs.SettingLaws.{judged_small, judge_9, judge_10, judge_0}
use Rattle.tanks.proofs.settings.judge.Goals as goal

pub returns-then-settings-t : goal.returns-then-settings-t
returns-then-settings-t c = sym (judge_9 c.args.settings (runs_in c.args.heads) c.args.t c.args.n c.if-settings-t.true)

pub claimed-sum-requires : goal.claimed-sum-requires
claimed-sum-requires c = judged_small c.args.settings c.args.heads c.args.t c.args.n c.requires.t_bound c.requires.judged c.if-settings-t.false

pub returns-then-sum-gt512 : goal.returns-then-sum-gt512
returns-then-sum-gt512 c = sym (judge_10 c.args.settings (runs_in c.args.heads) c.args.t c.args.n c.if-settings-t.false (omega (arith, c.claimed-sum.ensures)))

pub returns : goal.returns
returns c = sym (judge_0 c.args.settings (runs_in c.args.heads) c.args.t c.args.n c.if-settings-t.false (omega (arith, c.claimed-sum.ensures)))
