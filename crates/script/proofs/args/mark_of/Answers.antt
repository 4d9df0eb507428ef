-- Each number is cut to its width; the counter is the call's own.
use borrow.Author.Rules.{rules}
use Rattle.script.proofs.CounterLaws.{marked}
use Rattle.script.proofs.args.mark_of.Goals as goal

pub returns : goal.returns
returns c = marked c.args.who c.args.call (record { sfits = search rules }) c.key_of.ensures c.low8.ensures c.low32.ensures
