-- The invariant: what is left and what the first u tanks claim are 512 together. All eight claim no more.
use Rattle.std.proofs.Common.{◌≡◌, ◌+◌}
use Rattle.tanks.specs.Pool.{runs_in}
use Rattle.tanks.specs.Settings.{claims}
use Rattle.glance.proofs.table.left.Given as goal

abbrev pub invariant-loop-u : goal.invariant-loop-u
invariant-loop-u l = l.rest + claims l.s.settings (runs_in l.s.heads) l.u ≡ 512
