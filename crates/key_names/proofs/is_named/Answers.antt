-- A key that has a name has its place among them.
use mathlib.Core.Path.{◌∙◌}
use Rattle.key_names.proofs.Held.{named_where}
use Rattle.key_names.proofs.is_named.Goals as goal

pub returns : goal.returns
returns c = c.is_some.ensures ∙ named_where c.args.names c.args.key c.place_of.result c.place_of.ensures
