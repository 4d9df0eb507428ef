use Prim.Native.Nat.{ℕ}
use native.Mathlib.Omega.{arith}
use lib.ListN.{get_or}
use Rattle.answers.proofs.Laws.{left_more, left_none}
use Rattle.key_names.specs.Names.{names_of}
use Rattle.picture.specs.Picture.{entry_says, entries_say}
use Rattle.picture.proofs.Turns.{each_more, each_none}
use Rattle.picture.proofs.entries.entries.Goals as goal

pub loop-i-preserved : goal.loop-i-preserved
loop-i-preserved c =
    let a = c.args in
    let w = c.loop-i in
    left_more (each_more (λ (i : ℕ). entry_says (names_of a.names) i (get_or a.keys i 0)) 12 w.i (omega arith)) c.entry-k.ensures w.invariant

pub returns : goal.returns
unfolding entries_say
returns c =
    let a = c.args in
    let w = c.loop-i in
    left_none (each_none (λ (i : ℕ). entry_says (names_of a.names) i (get_or a.keys i 0)) 12 w.i (omega arith)) w.invariant
