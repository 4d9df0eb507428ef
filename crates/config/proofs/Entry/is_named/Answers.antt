-- `Entry::is_named` meets its contract: a tidy entry's length is within its bytes, and `==` says the rest. Assumes nothing.
use mathlib.Core.Path.{sym}
use Rattle.config.specs.Meaning.{name_in}
use Rattle.richtext.proofs.Laws.{same_said}
use Rattle.config.proofs.Entry.is_named.Goals as goal

pub returns : goal.returns
returns c = sym (same_said (name_in c.args.self.now) c.args.key.now c.eq.result c.eq.ensures)
