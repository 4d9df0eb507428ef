-- `stretch_at` meets its contract: no such tank, 4, or from where to where the marks hold.
use native.Mathlib.Omega.{arith}
use Prim.Native.Nat.{ℕ}
use Rattle.runs.specs.Positions.{first_of, last_of}
use Rattle.tank.specs.Rules.{View, alike}
use Rattle.questions.specs.Questions.{extent_of, stretch_at}
use Rattle.ask.proofs.Standing.{none_there, over_at, within_at}
use Rattle.ask.proofs.parts.stretch_at.Goals as goal

pub returns-then-tank-ge8 : goal.returns-then-tank-ge8
returns-then-tank-ge8 c =
    let a = c.args in
    none_there a.heads a.pool a.table a.tank a.who (extent_of 1 0 0) (stretch_at a.pos) c.if-tank-ge8.true c.no_extent.ensures

pub returns-then-length_in-pos : goal.returns-then-length_in-pos
returns-then-length_in-pos c =
    let a = c.args in
    over_at a.heads a.pool a.table a.tank a.who (λ (c : ℕ) (v : View). extent_of c (first_of (alike v.at) a.pos) (last_of (alike v.at) v.length a.pos)) (extent_of 1 0 0) a.pos c.if-tank-ge8.false c.length_in.ensures c.if-length_in-pos.true c.no_extent-then-length_in-pos.ensures

pub stretch_in-r-requires : goal.stretch_in-r-requires
stretch_in-r-requires c = (c.requires c.if-tank-ge8.false, omega (arith, c.length_in.ensures, c.if-length_in-pos.false))

pub returns : goal.returns
returns c =
    let a = c.args in
    within_at a.heads a.pool a.table a.tank a.who (λ (c : ℕ) (v : View). extent_of c (first_of (alike v.at) a.pos) (last_of (alike v.at) v.length a.pos)) (extent_of 1 0 0) a.pos c.if-tank-ge8.false c.length_in.ensures c.if-length_in-pos.false
    (λ j. record { number = 0; first = c.stretch_in-r.ensures.0 j; last = c.stretch_in-r.ensures.1 j })
