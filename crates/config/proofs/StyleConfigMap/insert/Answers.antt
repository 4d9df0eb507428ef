-- `StyleConfigMap::insert` meets its contract: 18 behind 19, or the table with the entry. Assumes nothing.
use mathlib.Core.Path.{sym, ◌∙◌}
use Rattle.config.proofs.MapLaws.{accepted, not_refused}
use Rattle.config.proofs.RetiredLaws.{type_refused, plain_inserts}
use Rattle.config.proofs.StyleConfigMap.insert.Goals as goal

pub returns-then-retired-clause-inserts : goal.returns-then-retired-clause-inserts
returns-then-retired-clause-inserts c = let h = c.in_ok-at.ensures in
    type_refused c.args.self.now c.args.value c.requires c.args.key.now (not_refused c.args.self.now c.requires c.args.key.now h.2 h.3 (rw h.0 at h.1)) (sym c.retired.ensures ∙ c.if-retired.true)

pub returns-clause-inserts : goal.returns-clause-inserts
returns-clause-inserts c = let h = c.in_ok-at.ensures in
    let r = not_refused c.args.self.now c.requires c.args.key.now h.2 h.3 (rw h.0 at h.1) in
    plain_inserts c.args.self.now c.args.value c.args.key.now _ (rw (c.store.ensures, c.new.ensures, h.0) (accepted c.args.self.now c.requires c.args.key.now c.args.value h.2 h.3 (rw h.0 at h.1))) r (sym c.retired.ensures ∙ c.if-retired.false)
