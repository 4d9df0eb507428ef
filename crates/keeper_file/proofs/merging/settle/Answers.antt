-- By whether a log stopped.
use mathlib.Core.Path.{refl, ap}
use Rattle.day_log.specs.Log.{going}
use Rattle.keeper_file.proofs.Merged.{settled_none, settled_all}
use Rattle.keeper_file.proofs.merging.settle.Goals as goal

pub returns-in_default : goal.returns-in_default
returns-in_default c =
    let a = c.args in
    settled_none a.m a.place a.kept.now a.next.now c.nothing_new.result a.next.now (ap going c.in_default.is) c.nothing_new.ensures refl

pub renew-requires : goal.renew-requires
renew-requires c = c.requires.tanks

pub returns : goal.returns
returns c =
    let a = c.args in
    settled_all a.m a.place a.kept.now a.next.now c.renew.result c.renew.new.next c.in-Going.is c.renew.ensures
