use mathlib.Core.Path.{refl}
use Prim.Native.Nat.{◌+◌, ◌*◌}
use native.Mathlib.Omega.{arith}
use Rattle.settings_text.specs.Text.{ReadsPair}
use Rattle.settings_text.proofs.Laws.{underway_none, pair_wrong, pair_read, pairs_read}
use Rattle.settings_text.proofs.pairs_lines.Goals as goal

pub loop-t-init : goal.loop-t-init
loop-t-init c = let a = c.args in underway_none a.ordered a.bytes.now a.from a.n _ refl c.requires.1

pub pair_lines-requires : goal.pair_lines-requires
pair_lines-requires c = (c.loop-t-test.true, omega arith, c.loop-t.invariant.inside)

pub returns-in-Err : goal.returns-in-Err
returns-in-Err c =
    let a = c.args in
    rw c.wrong_pairs.ensures
    (pair_wrong a.ordered a.bytes.now a.from a.n c.loop-t.settings c.loop-t.at c.loop-t.t c.loop-t.invariant c.loop-t-test.true c.in-Err.line (rw c.in-Err.is at ((let h : (let a = c.args in ReadsPair a.ordered a.bytes.now c.loop-t.at c.loop-t.t (a.n + 2 * c.loop-t.t) c.pair_lines.result) = let a = c.args in
    rw c.wide.ensures at c.pair_lines.ensures in h))))

pub loop-t-preserved : goal.loop-t-preserved
loop-t-preserved c =
    let a = c.args in
    pair_read a.ordered a.bytes.now a.from a.n c.loop-t.settings c.loop-t.at c.loop-t.t c.loop-t.invariant c.loop-t-test.true c.in-Ok.share c.in-Ok.limit c.in-Ok.next (rw c.in-Ok.is at ((let h : (let a = c.args in ReadsPair a.ordered a.bytes.now c.loop-t.at c.loop-t.t (a.n + 2 * c.loop-t.t) c.pair_lines.result) = let a = c.args in
    rw c.wide.ensures at c.pair_lines.ensures in h)))

pub returns : goal.returns
returns c = let a = c.args in pairs_read a.ordered a.bytes.now a.from a.n c.loop-t.settings c.loop-t.at c.loop-t.t c.loop-t.invariant c.loop-t-test.false
