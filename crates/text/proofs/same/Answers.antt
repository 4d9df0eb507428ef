use Rattle.std.proofs.lemmas.Bool.Decides.{Decides-eqb}
use Rattle.std.proofs.lemmas.Slice.Eq.{slice_eq-Decides}
use Rattle.text.proofs.Prefix.{decided_same}
use Rattle.text.proofs.same.Goals as goal

pub returns : goal.returns
returns c = decided_same _ _ _ (slice_eq-Decides Decides-eqb _ _ _ c.eq.ensures)
