-- The name of a row is short.
use native.Mathlib.Omega.{arith}
use Rattle.script.proofs.LineLaws.{name_spells, name_length, name_fits}
use Rattle.script.proofs.PutLaws.{puts_as, puts_more}
use Rattle.explain.proofs.Short.{short_op}
use Rattle.explain.proofs.refused.put_op.Goals as goal

pub put_name-requires : goal.put_name-requires
put_name-requires c = (name_fits _ c.op_name.ensures, omega (arith, name_length _ c.op_name.ensures, short_op c.args.row))

pub returns : goal.returns
returns c = puts_more (omega (arith, name_length _ c.op_name.ensures, short_op c.args.row)) (puts_as (name_spells _ c.op_name.ensures) c.put_name.ensures)
