-- One piece, at the free place.
use Prim.Native.Nat.{ℕ}
use mathlib.Core.List.{[], ◌∷◌}
use mathlib.Core.Path.{ap}
use native.Mathlib.Omega.{arith}
use Rattle.answers.proofs.Laws.{adds_as, one_piece}
use Rattle.key_names.specs.Names.{names_of, key_text}
use Rattle.picture.proofs.Choices.{whole_key}
use Rattle.picture.proofs.entries.key_name.Goals as goal

pub returns : goal.returns
returns c =
    let a = c.args in
    adds_as (ap (λ (k : ℕ). key_text (names_of a.names) k ∷ []) (whole_key a.key c.key_of.result c.key_of.ensures c.requires.2)) (one_piece a.at c.free-k.ensures.0 (omega arith) c.put_key.ensures)
