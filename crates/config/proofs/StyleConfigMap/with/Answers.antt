-- `StyleConfigMap::with` meets its contract: the table with the entry, or as it was. Assumes nothing.
use Rattle.config.proofs.MapLaws.{accepted}
use Rattle.config.proofs.StyleConfigMap.with.Goals as goal

pub returns-in-Ok : goal.returns-in-Ok
returns-in-Ok c = let h = c.in-Ok.ensures in
    rw (c.store.ensures, c.new.ensures, h.0) (accepted c.args.self c.requires c.args.key.now (record { expand = c.args.expand }) h.2 h.3 (rw h.0 at h.1))
