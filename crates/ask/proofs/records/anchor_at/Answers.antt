-- `anchor_at` meets its contract: the first that is ready, or none.
use mathlib.Core.Path.{◌∙◌}
use native.Mathlib.Omega.{arith}
use Rattle.ask.proofs.RecordLaws.{ready_is, ready_past}
use Rattle.ask.proofs.records.anchor_at.Goals as goal

pub bounds-c-i : goal.bounds-c-i
bounds-c-i c = let k = c.requires in omega (arith, k.few, c.if-i-c.true)

pub returns-then-i-c : goal.returns-then-i-c
returns-then-i-c c = ready_is c.requires c.if-i-c.true

pub returns : goal.returns
returns c = c.no_anchor.ensures ∙ ready_past c.requires c.if-i-c.false
