use native.Mathlib.Omega.{arith}
use Rattle.saved.proofs.RunsRead.{underway_none, run_wrong, run_more, runs_done}
use Rattle.saved.proofs.spans.runs_lines.Goals as goal

pub loop-j-init : goal.loop-j-init
loop-j-init c = let a = c.args in underway_none a.most a.bytes.now a.from a.n a.count c.requires.2

pub run_lines-requires : goal.run_lines-requires
run_lines-requires c = (omega (arith, c.loop-j.invariant.few), c.loop-j.invariant.inside)

pub returns-in-Err : goal.returns-in-Err
returns-in-Err c =
    let a = c.args in
    let run_is = rw c.wide.ensures at c.run_lines.ensures in
    rw c.wrong_runs.ensures
    (run_wrong a.most a.bytes.now a.from a.n a.count c.loop-j.lens c.loop-j.sets c.loop-j.at c.loop-j.before c.loop-j.sum c.loop-j.all c.loop-j.j c.loop-j.invariant c.requires.1 c.loop-j-test.true c.in-Err.line (rw c.in-Err.is at run_is))

pub loop-j-preserved : goal.loop-j-preserved
loop-j-preserved c =
    let a = c.args in
    let run_is = rw c.wide.ensures at c.run_lines.ensures in
    rw c.capped-sum.ensures
    (run_more a.most a.bytes.now a.from a.n a.count c.loop-j.lens c.loop-j.sets c.loop-j.at c.loop-j.before c.loop-j.sum c.loop-j.all c.loop-j.j c.loop-j.invariant c.requires.1 c.loop-j-test.true c.in-Ok.len c.in-Ok.set c.in-Ok.next (rw c.in-Ok.is at run_is))

pub returns : goal.returns
returns c = let a = c.args in runs_done a.most a.bytes.now a.from a.n a.count c.loop-j.lens c.loop-j.sets c.loop-j.at c.loop-j.before c.loop-j.sum c.loop-j.all c.loop-j.j c.loop-j.invariant c.loop-j-test.false
