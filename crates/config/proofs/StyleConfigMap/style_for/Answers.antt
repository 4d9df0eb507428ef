-- `StyleConfigMap::style_for` meets its contract: the place of the name tells its entry from the default. Assumes nothing.
use mathlib.Core.Path.{sym}
use native.Mathlib.Omega.{arith}
use Rattle.config.proofs.MapLaws.{style_known, style_default}
use Rattle.config.proofs.StyleConfigMap.style_for.Goals as goal

pub returns-then-at-self : goal.returns-then-at-self
returns-then-at-self c = rw c.place-at.ensures (sym (style_known c.args.self.now c.requires c.args.key.now (omega arith)))

pub returns : goal.returns
returns c = sym (style_default c.args.self.now c.requires c.args.key.now (omega arith))
