-- `placed` meets its contract: the tank's runs, its table and the bits of the party's marks, as they stand in the state.
use mathlib.Core.Path.{refl}
use native.Mathlib.Omega.{arith}
use Rattle.tanks.proofs.LookLaws.{few_in}
use Rattle.ask.proofs.RecordLaws.{place_stands, placed_in}
use Rattle.ask.proofs.records.placed.Goals as goal

pub own_bits-own-requires : goal.own_bits-own-requires
own_bits-own-requires c =
    let p = c.place-t in
    let ok = place_stands c.args.s c.args.spot.tank p.result p.ensures.0 c.requires in
    (ok.inside, few_in ok)

pub start-from-requires : goal.start-from-requires
start-from-requires c =
    let p = c.place-t in
    let ok = place_stands c.args.s c.args.spot.tank p.result p.ensures.0 c.requires in
    (omega (arith, ok.inside), ok.room)

pub returns : goal.returns
returns c =
    let p = c.place-t in
    placed_in c.args.s c.args.spot.tank p.result p.ensures.0 c.requires c.args.spot.who c.own_bits-own.result c.start-from.result c.own_bits-own.ensures c.start-from.ensures _ refl
