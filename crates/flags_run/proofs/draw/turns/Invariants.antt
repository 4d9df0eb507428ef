-- `draw::turns` keeps a sound map: each turn does. Assumes nothing.
use Rattle.config.specs.Meaning.{Sound}
use Rattle.flags_run.proofs.draw.turns.Given as goal

abbrev pub invariant-loop : goal.invariant-loop
invariant-loop l = Sound l.map
