-- The runs are taken out, and put back run by run, those behind the tank's own first; what these loops have written so far is a part of the pool that `puts` says.
use Prim.Native.Nat.{ℕ, ◌+◌, ◌-◌, ◌≤◌}
use mathlib.Core.Path.{◌≡◌}
use mathlib.Core.List.{List, []}
use lib.ListN.{length, get_or}
use Rattle.laws.proofs.Lists.{stored}
use Rattle.styles.specs.declared.Mark.{Mark}
use Rattle.tank.specs.declared.Tank.{Tank}
use Rattle.tank.specs.declared.lent.Left.{Left}
use Rattle.tank.specs.Lending.{done_as, tank_on, tank_made}
use Rattle.tanks.specs.declared.Head.{Head}
use Rattle.tanks.specs.Pool.{no_run, lens_in}
use Rattle.tanks.proofs.LaidLaws.{laid}
use Rattle.tanks.proofs.Put.{run_of, run_from}
use Rattle.tanks.proofs.WriteLaws.{part, lowest, Beyond, Inside}
use Rattle.tanks.proofs.PartsLaws.{outlined}
use Rattle.tanks.proofs.WithinLaws.{Walked}
use Rattle.tanks.proofs.edit_parts.Given as goal

-- the tank that is made, by what the second loop knows of it
abbrev pub made_of : Head → List Mark → List ℕ → List ℕ → Left → Tank
made_of h marks olens osets done = tank_made (tank_on (outlined h) [] [] marks) olens osets (done_as done)

-- the walk to the run that an edit may change alone
abbrev pub invariant-loop-to : goal.invariant-loop-to
invariant-loop-to l = Walked (lens_in l.heads l.pool l.t) l.n l.k l.from l.to × (l.at + l.n ≤ 512)

abbrev pub decreases-loop-to : goal.decreases-loop-to
decreases-loop-to l = l.n - l.k

abbrev pub invariant-loop-i : goal.invariant-loop-i
invariant-loop-i l =
    (l.at + l.n ≤ 512)
    × (l.lens ≡ stored (λ k. (get_or l.pool (l.at + k) no_run).len) l.initial.lens l.i)
    × (l.sets ≡ stored (λ k. (get_or l.pool (l.at + k) no_run).set) l.initial.sets l.i)
    × (length l.lens ≡ 514)
    × (length l.sets ≡ 514)

-- the runs behind the tank's own are written first
abbrev pub invariant-loop-k : goal.invariant-loop-k
invariant-loop-k l =
    Inside (made_of l.h l.marks l.olens l.osets l.done) l.m l.s.at l.s.from l.s.full l.s.count l.s.grows
    × Beyond l.m l.s.full l.s.count l.s.left l.s.behind
    × (l.pool ≡ part l.initial.pool (l.s.at + l.m) (λ j. run_from l.initial.pool (made_of l.h l.marks l.olens l.osets l.done) l.s.from l.s.full (l.m + j)) (lowest l.s.grows l.s.behind l.k) l.k)

-- then its own
abbrev pub invariant-loop-own : goal.invariant-loop-own
invariant-loop-own l =
    Inside (made_of l.h l.marks l.olens l.osets l.done) l.m l.s.at l.s.from l.s.full l.s.count l.s.grows
    × (l.pool ≡ laid l.initial.pool l.s.at (run_of l.olens l.osets) l.own)
