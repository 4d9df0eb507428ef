-- The part that is lent is as long as `places` says.
use borrow.Author.Rules.{rules}
use lib.ListN.{length-take}
use native.Mathlib.Omega.{arith}
use Rattle.clerk.proofs.listing.range_of.Goals as goal

pub slice_bounds-range_in-end-2 : goal.slice_bounds-range_in-end-2
slice_bounds-range_in-end-2 c = omega (arith, length-take c.places-k.result c.args.buf.now, c.places-k.ensures)

pub range_in-requires : goal.range_in-requires
range_in-requires c = record { can_ask = search rules; part_len = (omega (arith, length-take c.places-k.result c.args.buf.now, c.places-k.ensures), search rules) }

pub returns : goal.returns
returns c = c.range_in.ensures
