use mathlib.Core.Path.{sym, ◌∙◌}
use Rattle.key_names.proofs.Spelled.{name_empty, name_long, name_on, name_stop, name_all}
use Rattle.key_names.proofs.is_name.Goals as goal

pub returns-then-s-lt1 : goal.returns-then-s-lt1
returns-then-s-lt1 c = name_empty _ c.if-s-lt1.true

pub returns-then-s-gt24 : goal.returns-then-s-gt24
returns-then-s-gt24 c = name_long _ c.if-s-gt24.true

pub loop-c-preserved : goal.loop-c-preserved
loop-c-preserved c = name_on _ _ c.loop-c.invariant c.loop-c-test.true (sym c.in_name.ensures ∙ c.if-not-in_name.false)

pub returns-then-not-in_name : goal.returns-then-not-in_name
returns-then-not-in_name c = name_stop _ _ c.loop-c.invariant c.loop-c-test.true (sym c.in_name.ensures ∙ c.if-not-in_name.true)

pub returns : goal.returns
returns c = name_all _ _ c.loop-c.invariant c.loop-c-test.false c.if-s-lt1.false c.if-s-gt24.false
