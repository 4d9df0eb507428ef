use mathlib.Core.Path.{sym, ◌∙◌}
use Rattle.key_names.specs.Names.{held_in}
use Rattle.key_names.proofs.Held.{word_start, word_here, word_on, word_none}
use Rattle.key_names.proofs.key_among.Goals as goal

pub loop-i-init : goal.loop-i-init
loop-i-init c = let a = c.args in word_start (held_in a.keys.now a.lens.now a.texts.now) a.n a.word.now

pub returns-then-same_part : goal.returns-then-same_part
returns-then-same_part c =
    let a = c.args in
    c.from-then-same_part.ensures ∙ word_here (held_in a.keys.now a.lens.now a.texts.now) _ _ _ c.loop-i.invariant c.loop-i-test.true (sym (rw c.from.ensures at c.same_part.ensures) ∙ c.if-same_part.true)

pub loop-i-preserved : goal.loop-i-preserved
loop-i-preserved c =
    let a = c.args in
    word_on (held_in a.keys.now a.lens.now a.texts.now) _ _ _ c.loop-i.invariant c.loop-i-test.true (sym (rw c.from.ensures at c.same_part.ensures) ∙ c.if-same_part.false)

pub returns : goal.returns
returns c =
    let a = c.args in
    word_none (held_in a.keys.now a.lens.now a.texts.now) _ _ _ c.loop-i.invariant c.loop-i-test.false
