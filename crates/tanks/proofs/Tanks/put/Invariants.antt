-- The tank is put in run by run, as after an edit.
use mathlib.Core.Path.{◌≡◌}
use Rattle.tanks.proofs.Put.{run_from}
use Rattle.tanks.proofs.WriteLaws.{with_pool, part, lowest, Inside}
use Rattle.tanks.proofs.Tanks.put.Given as goal

abbrev pub invariant-loop-k : goal.invariant-loop-k
invariant-loop-k l =
    Inside l.x l.m l.s.at l.s.from l.s.full l.s.count l.s.grows
    × (l.self ≡ with_pool l.initial.self (part l.initial.self.pool l.s.at (run_from l.initial.self.pool l.x l.s.from l.s.full) (lowest l.s.grows l.s.count l.k) l.k))
