-- The edit's parts are taken out of the state and put back.
use Rattle.std.proofs.lemmas.Result.{err_from_is_err_and}
use Rattle.tanks.specs.Promises.{edit_of}
use Rattle.tanks.proofs.PartsLaws.{parts_some, parts_applied, parts_kept}
use Rattle.tanks.proofs.Tanks.apply.Goals as goal

pub edit_parts-requires : goal.edit_parts-requires
edit_parts-requires c = parts_some c.args.self.now c.args.tank c.place-t.result c.place-t.ensures.0 c.requires

pub returns-in_err-p : goal.returns-in_err-p
returns-in_err-p c =
    let s = c.args.self.now in
    let p = err_from_is_err_and c.from_residual.result c.from_residual.ensures.1 in
    rw (p.1, p.2) (record { done = parts_kept s c.args.tank c.place-t.result c.place-t.ensures.0 c.requires (edit_of c.args.call) _ c.in_err-p.ensures; fits = tt })

pub returns : goal.returns
returns c = parts_applied c.args.self.now c.args.tank c.place-t.result c.place-t.ensures.0 c.requires (edit_of c.args.call) _ c.in_ok-p.ensures
