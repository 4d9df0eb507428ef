-- Each line leaves what is kept in step with the tanks, and what is kept beside them in form.
use Rattle.std.proofs.Common.{◌≡◌, length}
use Rattle.script.specs.Bodies.{Fits}
use Rattle.clerk.specs.Desk.{Settled}
use Rattle.keeper.specs.Steps.{InStep}
use Rattle.keeper.proofs.calling.lines.Given as goal

abbrev pub invariant-loop-part : goal.invariant-loop-part
invariant-loop-part l =
    (length l.text ≡ length l.initial.text)
    × (length l.body ≡ length l.initial.body)
    × (length l.out ≡ length l.initial.out)
    × InStep l.k l.text
    × Settled l.stand.side
    × Fits l.stand.inlet l.body
