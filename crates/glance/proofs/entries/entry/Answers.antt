-- Three texts, one behind the other, are one piece.
use mathlib.Core.Path.{ap}
use native.Mathlib.Omega.{arith}
use Rattle.script.proofs.PutLaws.{puts_then, puts_all, puts_as}
use Rattle.answers.proofs.Laws.{one_piece}
use Rattle.key_names.specs.Names.{key_text, names_of}
use Rattle.glance.proofs.Laws.{small_key}
use Rattle.glance.proofs.entries.entry.Goals as goal

pub returns : goal.returns
returns c =
    let free = c.free-k.ensures in
    let name = puts_as (ap (key_text (names_of c.args.names)) (small_key c.args.key c.requires.2 c.key_of.ensures)) c.put_key.ensures in
    one_piece c.args.at free.0 (omega arith) (puts_then (omega (arith, free.1)) (puts_then (omega (arith, free.1)) (puts_all c.put-a.ensures) (puts_all c.put-b.ensures)) name)
