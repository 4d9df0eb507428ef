use Rattle.std.proofs.Common.{arith}
use Rattle.answers.proofs.Laws.{left_more, left_none}
use Rattle.answers.proofs.Loops.{pair_more, pair_none}
use Rattle.answers.proofs.settings.put_pairs.Goals as goal

pub loop-t-preserved : goal.loop-t-preserved
loop-t-preserved c = let w = c.loop-t in left_more (pair_more w.t c.args.settings (omega arith)) c.put_pair-k.ensures w.invariant

pub returns : goal.returns
returns c = let w = c.loop-t in left_none (pair_none w.t c.args.settings (omega arith)) w.invariant
