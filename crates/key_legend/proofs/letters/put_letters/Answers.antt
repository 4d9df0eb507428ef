use mathlib.Core.Path.{sym}
use Rattle.key_names.specs.Names.{names_of}
use Rattle.key_legend.proofs.Drawn.{letters_none, letters_on, letters_all}
use Rattle.key_legend.proofs.letters.put_letters.Goals as goal

pub loop-i-init : goal.loop-i-init
loop-i-init c = letters_none (names_of c.args.names) c.args.keys.now c.args.letters.now (sym c.requires.1)

pub loop-i-preserved : goal.loop-i-preserved
loop-i-preserved c =
    let a = c.args in
    letters_on (names_of a.names) a.keys.now c.loop-i.letters c.loop-i.i _ c.loop-i.invariant c.loop-i-test.true c.letter_for.ensures

pub returns : goal.returns
returns c =
    let a = c.args in
    letters_all (names_of a.names) a.keys.now c.loop-i.letters c.loop-i.i c.loop-i.invariant c.loop-i-test.false
