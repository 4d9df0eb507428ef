-- What is kept goes on by what the text says.
use mathlib.Core.Path.{refl}
use Rattle.settings_text.specs.Text.{settings_of}
use Rattle.settings_text.proofs.KeptLaws.{taken_wrong, taken_full, taken_kept}
use Rattle.settings_text.proofs.Kept.take.Goals as goal

pub returns-then-r-gt0 : goal.returns-then-r-gt0
returns-then-r-gt0 c = (taken_wrong c.args.self (settings_of c.args.bytes.now) c.read-r.result c.read-r.ensures c.if-r-gt0.true, c.requires)

pub returns-then-self-lt4294967295 : goal.returns-then-self-lt4294967295
returns-then-self-lt4294967295 c = (taken_kept c.args.self (settings_of c.args.bytes.now) c.read-r.result c.read-r.ensures c.if-r-gt0.false c.if-self-lt4294967295.true c.requires.four, record { four = refl })

pub returns : goal.returns
returns c = (taken_full c.args.self (settings_of c.args.bytes.now) c.read-r.result c.read-r.ensures c.if-r-gt0.false c.if-self-lt4294967295.false, c.requires)
