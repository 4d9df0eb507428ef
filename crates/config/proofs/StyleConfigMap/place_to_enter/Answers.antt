-- `StyleConfigMap::place_to_enter` meets its contract: each test is one of the three refusals. Assumes nothing.
use mathlib.Core.Path.{refl}
use native.Mathlib.Omega.{arith}
use Rattle.config.specs.Meaning.{configured}
use Rattle.config.proofs.NameLaws.{colon_cut}
use Rattle.config.proofs.TableLaws.{refuses_colon}
use Rattle.config.proofs.MapLaws.{full}
use Rattle.config.proofs.StyleConfigMap.place_to_enter.Goals as goal

pub returns-then-find-key : goal.returns-then-find-key
returns-then-find-key c =
    (refl, refuses_colon c.args.key.now (configured c.args.self.now) ((colon_cut c.args.key.now).0 (omega arith)))

pub returns-then-at-ge-MAX_ENTRIES : goal.returns-then-at-ge-MAX_ENTRIES
returns-then-at-ge-MAX_ENTRIES c = (refl, full c.args.self.now c.requires c.args.key.now (omega arith))

pub returns : goal.returns
returns c = (c.place-at.ensures, omega arith, omega arith, (colon_cut c.args.key.now).1 (omega arith))
