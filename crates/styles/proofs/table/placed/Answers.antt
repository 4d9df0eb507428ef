use Rattle.std.proofs.Common.{◌≡◌, length, take, drop, sym, ap, ◌∙◌, arith, rules, Ok, Err}
use Rattle.styles.specs.Order.{is_before, is_same}
use Rattle.styles.specs.Marks.{blank, place_of}
use Rattle.styles.proofs.OrderLaws.{same_flip, more_flip}
use Rattle.styles.proofs.TableLaws.{place_more, place_here, place_end, carried_here, carried_not}
use Rattle.styles.proofs.table.placed.Goals as goal

pub loop-i-preserved : goal.loop-i-preserved
loop-i-preserved c =
    let a = c.args in
    let long : length a.table ≡ 64 = search rules in
    let e = sym c.in-Before.ensures in
    omega (arith, place_more a.id a.table a.n c.loop-i.i _ (omega arith) (omega arith) (rw c.id_of.ensures at (ap is_before e)))

pub returns-in-Same : goal.returns-in-Same
returns-in-Same c =
    let a = c.args in
    let long : length a.table ≡ 64 = search rules in
    let e = rw c.id_of.ensures at (sym c.in-Same.ensures) in
    let here : c.loop-i.i ≡ place_of a.id (take a.n a.table) = omega (arith, place_here a.id a.table a.n c.loop-i.i _ (omega arith) (omega arith) (ap is_before e)) in
    let there = carried_here a.id a.table a.n c.loop-i.i _ (omega arith) c.requires.1 here (omega arith) ∙ ap is_same (same_flip _ a.id e) in
    rw there (ap Ok here)

-- it would stand where the first mark behind it does
pub returns-in-After : goal.returns-in-After
returns-in-After c =
    let a = c.args in
    let long : length a.table ≡ 64 = search rules in
    let e = rw c.id_of.ensures at (sym c.in-After.ensures) in
    let here : c.loop-i.i ≡ place_of a.id (take a.n a.table) = omega (arith, place_here a.id a.table a.n c.loop-i.i _ (omega arith) (omega arith) (ap is_before e)) in
    let there = carried_here a.id a.table a.n c.loop-i.i _ (omega arith) c.requires.1 here (omega arith) ∙ ap is_same (more_flip _ a.id e) in
    rw there (ap Err here)

-- all come before it
pub returns : goal.returns
returns c =
    let a = c.args in
    let long : length a.table ≡ 64 = search rules in
    let n : c.loop-i.i ≡ a.n = omega arith in
    let none : place_of a.id (drop c.loop-i.i (take a.n a.table)) ≡ 0 = rw n (place_end a.id a.table a.n) in
    let here : a.n ≡ place_of a.id (take a.n a.table) = omega arith in
    let there = carried_not a.id a.table a.n a.n blank (omega arith) c.requires.1 here (omega arith) in
    rw there (ap Err here)
