-- What a piece has is what the text has from its place on, as far as a piece goes.
use Prim.Native.Nat.{ℕ, ◌-◌}
use lib.ListN.{take, drop}
use mathlib.Core.Path.{ap, ◌∙◌}
use mathlib.Core.List.{List, [], ◌∷◌}
use Rattle.answers.proofs.Laws.{adds_as}
use Rattle.answers.proofs.Loops.{piece_is}
use Rattle.answers.proofs.texts.put_part.Goals as goal

pub returns : goal.returns
returns c =
    let a = c.args in
    adds_as (ap (λ (t : List ℕ). t ∷ []) (ap (λ (n : ℕ). take (n - a.from) (drop a.from a.text.now)) c.piece_end-to.ensures ∙ piece_is a.text.now a.from c.requires.1)) c.put_piece.ensures
