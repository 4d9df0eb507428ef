-- The first line, the pairs, and the opening's own rule.
use mathlib.Core.Path.{sym, ◌∙◌}
use native.Mathlib.Omega.{arith}
use Rattle.text_lines.specs.Lines.{decimal_from}
use Rattle.text_lines.proofs.Laws.{taken_inside}
use Rattle.settings_text.specs.Text.{version_name}
use Rattle.saved.specs.Saying.{newest}
use Rattle.saved.proofs.Beginning as begun
use Rattle.saved.proofs.house.begin_lines.Goals as goal

pub returns-in_default : goal.returns-in_default
returns-in_default c = begun.version_wrong c.args.bytes.now (sym c.in_default.is ∙ c.number.ensures) c.nothing_opened.result c.nothing_opened.ensures.0 c.nothing_opened.ensures.1

pub pairs_lines-p-requires : goal.pairs_lines-p-requires
pairs_lines-p-requires c =
    let a = c.args in
    let version_known = sym c.in-Some.is ∙ c.number.ensures in
    (omega arith, taken_inside version_name (decimal_from 1 newest) a.bytes.now 0 c.in-Some.version c.in-Some.start (sym version_known))

pub returns-then-p-gt0 : goal.returns-then-p-gt0
returns-then-p-gt0 c =
    let a = c.args in
    let version_known = sym c.in-Some.is ∙ c.number.ensures in
    begun.settings_wrong a.bytes.now c.in-Some.version c.in-Some.start version_known c.pairs_lines-p.result c.pairs_lines-p.ensures c.if-p-gt0.true c.nothing_opened-then-p-gt0.result c.nothing_opened-then-p-gt0.ensures.0 c.nothing_opened-then-p-gt0.ensures.1

pub returns-then-o-gt0 : goal.returns-then-o-gt0
returns-then-o-gt0 c =
    let a = c.args in
    let version_known = sym c.in-Some.is ∙ c.number.ensures in
    begun.shares_wrong a.bytes.now c.in-Some.version c.in-Some.start version_known c.pairs_lines-p.result c.pairs_lines-p.ensures c.if-p-gt0.false c.open-o.result c.open-o.ensures c.if-o-gt0.true c.nothing_opened-then-o-gt0.result c.nothing_opened-then-o-gt0.ensures.0 c.nothing_opened-then-o-gt0.ensures.1

pub returns : goal.returns
returns c =
    let a = c.args in
    let version_known = sym c.in-Some.is ∙ c.number.ensures in
    begun.begun a.bytes.now c.in-Some.version c.in-Some.start version_known c.pairs_lines-p.result c.pairs_lines-p.ensures c.if-p-gt0.false c.open-o.result c.open-o.ensures c.if-o-gt0.false
