-- Each turn leaves what is kept beside the tanks in form.
use Rattle.std.proofs.Common.{◌≡◌, length}
use Rattle.script.specs.Bodies.{Fits}
use Rattle.clerk.specs.Desk.{Settled}
use Rattle.keeper.proofs.calling.all.Given as goal

abbrev pub invariant-loop : goal.invariant-loop
invariant-loop l =
    (length l.body ≡ length l.initial.body)
    × (length l.out ≡ length l.initial.out)
    × Settled l.stand.side
    × Fits l.stand.inlet l.body
