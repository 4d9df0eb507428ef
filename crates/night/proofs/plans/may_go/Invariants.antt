-- `plans::may_go` meets its contract. The invariant: what is asked of all ranges is what is asked of those from x on.
use Rattle.tank.specs.State.{view}
use Rattle.night.proofs.FitLaws.{Checked}
use Rattle.night.proofs.plans.may_go.Given as goal

abbrev pub invariant-loop-x : goal.invariant-loop-x
invariant-loop-x l = Checked l.fn.hold (view l.fn.t) l.fn.plan l.x-index l.from
