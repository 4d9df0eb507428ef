use Rattle.key_names.proofs.Lines.{underway_none, all_read}
use Rattle.key_names.proofs.read.Goals as goal

pub loop-from-init : goal.loop-from-init
loop-from-init c = underway_none _ _ c.none-names.ensures

pub returns : goal.returns
returns c = all_read c.args.bytes.now c.loop-from.names c.loop-from.from c.loop-from.invariant c.loop-from-test.false
