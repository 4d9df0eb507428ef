-- What stands in the part.
use mathlib.Core.Path.{◌≡◌, ap}
use Prim.Native.Nat.{ℕ, ◌+◌, ◌-◌}
use native.Mathlib.Omega.{arith}
use lib.ListN.{take, drop, length-take}
use Rattle.text.specs.Bytes.{up_to}
use Rattle.script.proofs.PutLaws.{puts_as, puts_more}
use Rattle.refusals.proofs.put_cell.Goals as goal

pub returns : goal.returns
returns c =
    let a = c.args in
    let e : a.from + 48 - a.from ≡ 48 = omega arith in
    puts_as (ap (λ (k : ℕ). up_to 46 (take k (drop a.from a.all.now))) e) (puts_more (omega (arith, length-take (a.from + 48 - a.from) (drop a.from a.all.now))) c.put_filled.ensures)
