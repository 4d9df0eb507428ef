-- By how the answer begins.
use mathlib.Core.Path.{sym, ◌∙◌}
use native.Mathlib.Omega.{arith}
use Rattle.script.specs.Lines.{state_of}
use Rattle.script.proofs.PutLaws.{puts_all, puts_as, puts_more}
use Rattle.explain.proofs.Telling.{told_refused, told_bad, told_nothing}
use Rattle.explain.proofs.told.put_told.Goals as goal

pub returns-then-starts : goal.returns-then-starts
returns-then-starts c = puts_as (told_refused (state_of c.args.before) c.args.bytes.now c.args.answer.now (sym c.starts.ensures ∙ c.if-starts.true)) c.refused.ensures

pub returns-then-starts-2 : goal.returns-then-starts-2
returns-then-starts-2 c = puts_as (told_bad (state_of c.args.before) c.args.bytes.now c.args.answer.now (sym c.starts.ensures ∙ c.if-starts.false) (sym c.starts-2.ensures ∙ c.if-starts-2.true)) c.bad.ensures

pub returns : goal.returns
returns c =
    puts_as (told_nothing (state_of c.args.before) c.args.bytes.now c.args.answer.now (sym c.starts.ensures ∙ c.if-starts.false) (sym c.starts-2.ensures ∙ c.if-starts-2.false))
    (puts_more (omega arith) (puts_all c.put.ensures))
