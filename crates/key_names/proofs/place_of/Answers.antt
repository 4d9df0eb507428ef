use native.Mathlib.Omega.{arith}
use Rattle.key_names.specs.Names.{held_in, names_of}
use Rattle.key_names.proofs.Held.{key_start, key_here, key_on, key_none}
use Rattle.key_names.proofs.place_of.Goals as goal

pub loop-i-init : goal.loop-i-init
loop-i-init c = let a = c.args in key_start (held_in a.names.keys a.names.lens a.names.texts) a.names.count a.key

pub returns-then-names-i : goal.returns-then-names-i
unfolding names_of
returns-then-names-i c = (key_here _ _ _ _ c.loop-i.invariant c.loop-i-test.true c.if-names-i.true, c.loop-i-test.true)

pub loop-i-preserved : goal.loop-i-preserved
loop-i-preserved c = key_on _ _ _ _ c.loop-i.invariant c.loop-i-test.true c.if-names-i.false

pub returns : goal.returns
unfolding names_of
returns c = omega (arith, key_none _ _ _ _ c.loop-i.invariant c.loop-i-test.false, c.loop-i-test.false)
