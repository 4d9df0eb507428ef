use mathlib.Core.Path.{◌∙◌}
use Rattle.std.proofs.Common.{rules, tests}
use Rattle.std.proofs.lemmas.Iterator.{YieldsList-from_slice}
use Rattle.std.proofs.lemmas.Iterator.Search.{all_from_yields_List}
use Rattle.std.specs.Char.{is_ascii_digit}
use Rattle.explain.proofs.Figures.{figures_all}
use Rattle.explain.proofs.bad.figures.Goals as goal

pub returns : goal.returns
returns c = all_from_yields_List is_ascii_digit _ _ _ c.all.ensures.ran (YieldsList-from_slice c.args.t.now c.iter.ensures.rest) (λ x b q k. search (rules, tests)) ∙ figures_all c.args.t.now
