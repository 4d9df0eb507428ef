-- `stretch_at` meets its contract: 4, or the run that the position is in.
use mathlib.Core.Path.{◌∙◌}
use native.Mathlib.Omega.{arith}
use Rattle.questions.proofs.QuestionLaws.{extent_4, extent_done}
use Rattle.questions.proofs.stretch_at.Goals as goal

pub returns-then-t-pos : goal.returns-then-t-pos
returns-then-t-pos c = c.no_extent.ensures ∙ extent_4 c.requires c.args.pos c.if-t-pos.true

pub overflow_sub-result : goal.overflow_sub-result
overflow_sub-result c = let g = c.place_at-f.ensures in let h = g.0.inside g.1 in omega (arith, h.0)

pub returns : goal.returns
returns c =
    let g = c.place_at-f.ensures in
    extent_done c.requires g.0 g.1 c.if-t-pos.false
