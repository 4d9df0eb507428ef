-- Behind the greatest peer there is none.
use Prim.Native.Nat.{◌-◌, ◌^◌}
use native.Mathlib.Omega.{arith}
use Rattle.text.specs.Bytes.{bytes}
use Rattle.saved.specs.Saying.{peer_least}
use Rattle.saved.proofs.Steps.{taken_void}
use Rattle.saved.proofs.marks.peer_line.Goals as goal

pub returns-in_err-least : goal.returns-in_err-least
returns-in_err-least c =
    let a = c.args in
    rw c.from_residual.ensures (taken_void (bytes "peer=") (peer_least a.before a.key a.lamport) (2 ^ 64 - 1) (omega (arith, c.in_err-least.ensures)) a.t.now a.from)
