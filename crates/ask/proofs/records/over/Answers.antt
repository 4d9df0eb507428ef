-- `over` meets its contract: what each of two sets lacks of the other, by two calls.
use Prim.Native.Nat.{◌+◌}
use Rattle.ask.proofs.records.over.Goals as goal

pub returns : goal.returns
returns c =
    let a = c.args in
    λ i. record { passed = a.w.passed + 1; end = a.w.end + a.len; last = a.next; at = a.w.end; ends = c.lacking.ensures i; starts = c.lacking-2.ensures i }
