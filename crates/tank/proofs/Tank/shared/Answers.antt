-- `Tank::shared` meets its contract: the bits of the other party's marks are counted.
use mathlib.Core.Path.{ap}
use lib.Dec.{ltb}
use Rattle.styles.specs.Marks.{is_of}
use Rattle.tank.specs.Rules.{other_of}
use Rattle.tank.proofs.CrowdLaws.{mask_count}
use Rattle.tank.proofs.Tank.shared.Goals as goal

pub returns : goal.returns
returns c = ap (ltb 0) (mask_count (is_of (other_of c.args.who)) _ _ _ (rw c.other.ensures at c.party_bits-theirs.ensures) c.count.ensures.0)
