-- Only a NaN differs from itself.
use Rattle.styles.proofs.Floats.{ne_self}
use Rattle.styles.proofs.values.is_nan.Goals as goal

pub returns : goal.returns
returns c = ne_self c.args.a
