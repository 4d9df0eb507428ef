-- The first line, the lines of the pairs, and nothing behind them.
use Rattle.std.specs.Prelude.{Some}
use mathlib.Core.Path.{◌≡◌, sym, ◌∙◌}
use native.Mathlib.Omega.{arith}
use Rattle.text_lines.specs.Lines.{taken_by, decimal_from}
use Rattle.text_lines.proofs.Laws.{taken_inside}
use Rattle.settings_text.specs.Text.{version_name}
use Rattle.settings_text.proofs.Laws.{version_wrong, pairs_wrong, left_over, all_read}
use Rattle.settings_text.proofs.read.Goals as goal

pub returns-in_default : goal.returns-in_default
returns-in_default c = c.wrong.ensures ∙ version_wrong c.args.bytes.now (sym c.in_default.is ∙ c.number.ensures)

pub pairs_lines-p-requires : goal.pairs_lines-p-requires
pairs_lines-p-requires c = (omega arith, taken_inside version_name (decimal_from 1 1) c.args.bytes.now 0 c.in-Some.field-0-0 c.in-Some.start (sym ((let h : Some (c.in-Some.field-0-0, c.in-Some.start) ≡ taken_by version_name (decimal_from 1 1) c.args.bytes.now 0 = sym c.in-Some.is ∙ c.number.ensures in h))))

pub returns-then-p-gt0 : goal.returns-then-p-gt0
returns-then-p-gt0 c = c.wrong-then-p-gt0.ensures ∙ pairs_wrong c.args.bytes.now c.in-Some.field-0-0 c.in-Some.start ((let h : Some (c.in-Some.field-0-0, c.in-Some.start) ≡ taken_by version_name (decimal_from 1 1) c.args.bytes.now 0 = sym c.in-Some.is ∙ c.number.ensures in h)) c.pairs_lines-p.result c.pairs_lines-p.ensures c.if-p-gt0.true

pub returns-then-p-bytes : goal.returns-then-p-bytes
returns-then-p-bytes c = c.wrong-then-p-bytes.ensures ∙ left_over c.args.bytes.now c.in-Some.field-0-0 c.in-Some.start ((let h : Some (c.in-Some.field-0-0, c.in-Some.start) ≡ taken_by version_name (decimal_from 1 1) c.args.bytes.now 0 = sym c.in-Some.is ∙ c.number.ensures in h)) c.pairs_lines-p.result c.pairs_lines-p.ensures c.if-p-gt0.false c.if-p-bytes.true

pub returns : goal.returns
returns c = all_read c.args.bytes.now c.in-Some.field-0-0 c.in-Some.start ((let h : Some (c.in-Some.field-0-0, c.in-Some.start) ≡ taken_by version_name (decimal_from 1 1) c.args.bytes.now 0 = sym c.in-Some.is ∙ c.number.ensures in h)) c.pairs_lines-p.result c.pairs_lines-p.ensures c.if-p-gt0.false c.if-p-bytes.false
