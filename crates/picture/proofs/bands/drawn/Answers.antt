-- An empty band, or all that lies in one.
use Prim.Native.Nat.{ℕ}
use mathlib.Core.List.{◌++◌}
use mathlib.Core.Path.{ap, ap₂}
use native.Mathlib.Omega.{arith}
use Rattle.answers.proofs.Laws.{and_then, adds_as}
use Rattle.tank.specs.Rules.{View}
use Rattle.tanks.specs.House.{tank_at}
use Rattle.tanks.specs.Pool.{meaning}
use Rattle.picture.specs.Bands.{empty_says, end_of, sides_say, over_says, drawn_says}
use Rattle.picture.proofs.Choices.{when_true, when_false}
use borrow.Author.Tests.{lt-ltb, le-ltb}
use lib.Dec.{ltb}
use Rattle.picture.proofs.bands.drawn.Goals as goal

pub returns-then-end-lt1 : goal.returns-then-end-lt1
unfolding drawn_says
returns-then-end-lt1 c =
    let a = c.args in
    let list = a.list.now in
    let e = c.end_of-end.ensures in
    let h = c.if-end-lt1.true in
    when_true (empty_says a.top) (sides_say (meaning a.s) a.keys a.tank (end_of list) a.top ++ over_says (tank_at (meaning a.s) a.tank) a.hold (end_of list) a.top list) (ltb (end_of list) 1) (lt-ltb (end_of list) 1 (omega (arith, e, h))) c.empty.ensures

pub returns : goal.returns
unfolding drawn_says
returns c =
    let a = c.args in
    let list = a.list.now in
    let h = meaning a.s in
    let e = c.end_of-end.ensures in
    let l = c.if-end-lt1.false in
    when_false (empty_says a.top) (sides_say h a.keys a.tank (end_of list) a.top ++ over_says (tank_at h a.tank) a.hold (end_of list) a.top list) (ltb (end_of list) 1) (le-ltb (end_of list) 1 (omega (arith, e, l))) (and_then (adds_as (ap (λ (n : ℕ). sides_say h a.keys a.tank n a.top) e) c.sides-a.ensures) (adds_as (ap₂ (λ (v : View) (n : ℕ). over_says v a.hold n a.top list) c.requires.3 e) c.over.ensures))
