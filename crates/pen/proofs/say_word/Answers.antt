-- Blanks and the text behind them are one piece.
use mathlib.Core.Path.{ap}
use Prim.Native.Nat.{ℕ}
use native.Mathlib.Omega.{arith}
use lib.ListN.{replicate}
use Rattle.script.proofs.PutLaws.{puts_then, puts_all, puts_as}
use Rattle.answers.proofs.Laws.{one_piece}
use Rattle.pen.proofs.say_word.Goals as goal

pub returns : goal.returns
returns c =
    let l = c.saturating_sub.ensures in
    let blanks = puts_as (ap (λ (n : ℕ). replicate n 32) l) c.put_blanks-a.ensures in
    one_piece c.args.at c.free-k.ensures.0 (omega (arith, c.requires.1, c.requires.2, l)) (puts_then (omega (arith, c.requires.2, l, c.free-k.ensures.1)) blanks (puts_all c.put.ensures))
