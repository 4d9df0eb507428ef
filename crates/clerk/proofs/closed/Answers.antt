-- By how the input ends.
use Rattle.clerk.proofs.Ends.{ends_clean, ends_cut}
use mathlib.Core.Path.{refl, sym, ◌∙◌}
use Rattle.clerk.proofs.closed.Goals as goal

pub returns-in-Clean : goal.returns-in-Clean
returns-in-Clean c = let s = c.requires.sound in ends_clean _ _ _ s.0 s.1 s.2 s.3 c.standing.ensures (sym c.inlet_ended-e.ensures ∙ c.in-Clean.is) refl

pub returns-in-Cut : goal.returns-in-Cut
returns-in-Cut c = let s = c.requires.sound in ends_cut _ _ _ s.0 s.1 s.2 s.3 c.standing-in-Cut.ensures (sym c.inlet_ended-e.ensures ∙ c.in-Cut.is) c.put_bad-k.ensures
