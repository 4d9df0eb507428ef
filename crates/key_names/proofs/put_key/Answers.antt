-- Of the first name that the key has, or of its number.
use mathlib.Core.Path.{refl}
use native.Mathlib.Omega.{arith}
use Rattle.script.proofs.PutLaws.{puts_as}
use Rattle.key_names.proofs.Held.{called_by, called_none}
use Rattle.key_names.proofs.put_key.Goals as goal

pub returns-in-Some : goal.returns-in-Some
returns-in-Some c = puts_as (called_by c.args.names c.args.key _ c.in-Some.ensures.0 c.in-Some.ensures.1) c.put_name.ensures

pub returns-in-None : goal.returns-in-None
returns-in-None c = puts_as (called_none c.args.names c.args.key _ refl (omega (arith, c.in-None.ensures))) c.put_number.ensures
