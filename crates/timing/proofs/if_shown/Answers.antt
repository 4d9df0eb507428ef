-- By the cases of the answer; a number of at most 63 is the same as a signed one.
use Rattle.std.proofs.Common.{sym, ◌∙◌, arith, w64}
use mir.Facts.{to_z_pos}
use Rattle.timing.proofs.if_shown.Goals as goal

pub returns-in-Refused : goal.returns-in-Refused
returns-in-Refused c = rw c.in-Refused.is

pub returns-in-Nothing : goal.returns-in-Nothing
returns-in-Nothing c = rw c.in-Nothing.is

pub returns-then-same_value : goal.returns-then-same_value
returns-then-same_value c =
    let n = c.args.n in
    let e = sym c.same_value.ensures ∙ c.if-same_value.true in
    rw (c.in-Shows.is, rw (to_z_pos w64 {n = n} (omega arith)) at e)

pub returns-else-same_value : goal.returns-else-same_value
returns-else-same_value c =
    let n = c.args.n in
    let e = sym c.same_value.ensures ∙ c.if-same_value.false in
    rw (c.in-Shows.is, rw (to_z_pos w64 {n = n} (omega arith)) at e)
