-- One more where there is a key.
use Rattle.std.proofs.Common.{◌≡◌, ◌≤◌}
use Rattle.picture.specs.Picture.{keys_there}
use Rattle.picture.proofs.entries.key_count.Given as goal

abbrev pub invariant-loop-key : goal.invariant-loop-key
invariant-loop-key l = (l.n ≡ keys_there l.key-items l.key-index) × (l.n ≤ l.key-index)
