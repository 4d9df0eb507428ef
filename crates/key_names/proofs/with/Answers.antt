-- The name is put into the place of 24 bytes behind the last.
use native.Mathlib.Omega.{arith}
use Rattle.key_names.proofs.Spelled.{name_sized}
use Rattle.key_names.proofs.Held.{with_room, with_all}
use Rattle.key_names.proofs.with.Goals as goal

pub overflow_cast-lens : goal.overflow_cast-lens
overflow_cast-lens c = omega (arith, (name_sized c.args.name.now c.requires.2).most)

pub put-requires : goal.put-requires
put-requires c = with_room c.args.names c.requires.0 c.args.key c.args.name.now c.requires.1 c.ranges.key.fits c.requires.2

pub returns : goal.returns
returns c = with_all c.args.names c.requires.0 c.args.key c.args.name.now c.requires.1 c.ranges.key.fits c.requires.2 _ c.put.ensures.1
