-- `past_end` meets its contract: one bit less.
use Rattle.ask.proofs.records.past_end.Goals as goal

pub returns : goal.returns
returns c =
    let w = c.args.w in
    λ i. record { passed = w.passed; end = w.end; last = w.last; at = w.at; ends = c.without_bit.ensures i; starts = w.starts }
