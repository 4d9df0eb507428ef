use native.Mathlib.Omega.{arith}
use Rattle.key_names.specs.Names.{names_of}
use Rattle.answers.proofs.Laws.{left_all, left_more, left_none}
use Rattle.glance.specs.Glance.{entry_says}
use Rattle.glance.proofs.Laws.{each_more, each_none}
use Rattle.glance.proofs.entries.entries.Goals as goal

pub loop-i-preserved : goal.loop-i-preserved
loop-i-preserved c =
    let a = c.args in
    let w = c.loop-i in
    left_more (each_more (entry_says (names_of a.names) a.keys a.letters) w.i (omega arith)) c.entry_at-at.ensures w.invariant

pub returns : goal.returns
returns c =
    let a = c.args in
    let w = c.loop-i in
    left_none (each_none (entry_says (names_of a.names) a.keys a.letters) w.i (omega arith)) w.invariant
