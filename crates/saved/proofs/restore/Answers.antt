-- The settings, the tanks, and nothing behind them; a wrong line leaves the tanks as they were.
use native.Mathlib.Omega.{arith}
use Rattle.saved.proofs.Beginning as begun
use Rattle.saved.proofs.restore.Goals as goal

pub returns-then-b-gt0 : goal.returns-then-b-gt0
returns-then-b-gt0 c = rw c.not_restored.ensures (begun.begin_refused c.args.s c.requires c.args.bytes.now c.begin_lines-b.result c.begin_lines-b.ensures c.if-b-gt0.true)

pub tanks_lines-f-requires : goal.tanks_lines-f-requires
tanks_lines-f-requires c = let b = c.begin_lines-b.ensures in (b.inside, b.sound (omega (arith, c.if-b-gt0.false)), b.fresh (omega (arith, c.if-b-gt0.false)))

pub returns-then-f-gt0 : goal.returns-then-f-gt0
returns-then-f-gt0 c = rw c.not_restored-then-f-gt0.ensures (begun.tanks_refused c.args.s c.requires c.args.bytes.now c.begin_lines-b.result c.begin_lines-b.ensures c.if-b-gt0.false c.tanks_lines-f.result c.tanks_lines-f.ensures c.if-f-gt0.true)

pub overflow_add-f : goal.overflow_add-f
overflow_add-f c = record { fits = omega (arith, c.tanks_lines-f.ensures.lines_most) }

pub returns-then-f-bytes : goal.returns-then-f-bytes
returns-then-f-bytes c = rw c.not_restored-then-f-bytes.ensures (begun.left_over c.args.s c.requires c.args.bytes.now c.begin_lines-b.result c.begin_lines-b.ensures c.if-b-gt0.false c.tanks_lines-f.result c.tanks_lines-f.ensures c.if-f-gt0.false c.if-f-bytes.true)

pub returns : goal.returns
returns c = begun.all_restored c.args.s c.requires c.args.bytes.now c.begin_lines-b.result c.begin_lines-b.ensures c.if-b-gt0.false c.tanks_lines-f.result c.tanks_lines-f.ensures c.if-f-gt0.false c.if-f-bytes.false
