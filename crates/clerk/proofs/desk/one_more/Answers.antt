-- There is room for it, or the plan is too long.
use Prim.Native.Nat.{◌+◌, ◌≤◌, ◌<◌}
use borrow.Author.Tests.{lt-ltb, le-ltb}
use lib.ListN.{set}
use mathlib.Core.Path.{◌≡◌, refl}
use Rattle.night.specs.declared.Plan.{Plan}
use Rattle.night.specs.declared.Range.{Range}
use Rattle.clerk.specs.Desk.{one_more}
use Rattle.clerk.proofs.desk.one_more.Goals as goal

room : (p : Plan) (x : Range) → p.count < 32 → ◌≡◌ {A = Plan} (record { count = p.count + 1; ranges = set p.ranges p.count x }) (one_more p x)
unfolding one_more
room p x h = rw (lt-ltb p.count 32 h) refl

too_long : (p : Plan) (x : Range) → 32 ≤ p.count → ◌≡◌ {A = Plan} (record { count = 33; ranges = p.ranges }) (one_more p x)
unfolding one_more
too_long p x h = rw (le-ltb p.count 32 h) refl

pub returns-then-n-lt32 : goal.returns-then-n-lt32
returns-then-n-lt32 c = let a = c.args in room a.p a.x c.if-n-lt32.true

pub returns : goal.returns
returns c = let a = c.args in too_long a.p a.x c.if-n-lt32.false
