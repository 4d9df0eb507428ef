-- What its callee adds.
use borrow.Author.Rules.{rules}
use native.Mathlib.Omega.{arith}
use Rattle.clerk.proofs.texts.save.Goals as goal

pub save_of-requires : goal.save_of-requires
save_of-requires c = record { sound = search rules; in_bounds = (omega (arith, c.text_room-buf.ensures), search rules) }

pub returns : goal.returns
returns c = c.save_of.ensures
