-- The part that is lent is as long as `bytes_lent` says.
use borrow.Author.Rules.{rules}
use lib.ListN.{length-take}
use native.Mathlib.Omega.{arith}
use Rattle.clerk.proofs.texts.save_of.Goals as goal

pub slice_bounds-save_in-end-2 : goal.slice_bounds-save_in-end-2
slice_bounds-save_in-end-2 c = omega (arith, length-take c.bytes_lent-k.result c.args.buf.now, c.bytes_lent-k.ensures)

pub save_in-requires : goal.save_in-requires
save_in-requires c = record { sound = search rules; part_len = (omega (arith, length-take c.bytes_lent-k.result c.args.buf.now, c.bytes_lent-k.ensures), search rules) }

pub returns : goal.returns
returns c = c.save_in.ensures
