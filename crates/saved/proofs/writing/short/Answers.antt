-- The longest text fits, or it is measured.
use native.Mathlib.Omega.{arith}
use mathlib.Core.Path.{sym, ap}
use borrow.Author.Tests.{le-ltb}
use lib.Dec.{ltb}
use lib.ListN.{length}
use Rattle.tanks.specs.Pool.{meaning}
use Rattle.saved.specs.Writes.{written}
use Rattle.saved.proofs.Bound.{written_most}
use Rattle.saved.proofs.writing.short.Goals as goal

pub returns-then-room-ge-MOST : goal.returns-then-room-ge-MOST
returns-then-room-ge-MOST c = sym (le-ltb c.args.room (length (written (meaning c.args.s))) (omega (arith, written_most c.args.s c.requires)))

pub returns : goal.returns
returns c = ap (ltb c.args.room) c.needed.ensures
