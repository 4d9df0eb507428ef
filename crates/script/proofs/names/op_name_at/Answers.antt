-- The name in the part.
use mathlib.Core.Path.{◌≡◌, ap, ◌∙◌}
use Prim.Native.Nat.{ℕ, ◌+◌, ◌-◌}
use native.Mathlib.Omega.{arith}
use lib.ListN.{take, drop}
use Rattle.text.specs.Bytes.{up_to}
use Rattle.script.specs.Grammar.{spelling}
use Rattle.script.proofs.names.op_name_at.Goals as goal

pub returns : goal.returns
returns c =
    let e : c.args.from + 16 - c.args.from ≡ 16 = omega arith in
    c.cell_name.ensures ∙ ap (λ (k : ℕ). spelling (up_to 32 (take k (drop c.args.from c.args.all.now)))) e
