-- The strips, and the legend behind them.
use mathlib.Core.Path.{ap, ap₂}
use mathlib.Core.List.{List}
use Prim.Native.Nat.{ℕ}
use Rattle.tanks.specs.Pool.{meaning}
use Rattle.answers.proofs.Laws.{and_then, adds_as}
use Rattle.key_names.specs.Names.{names_of}
use Rattle.glance.specs.Glance.{strips_say, legend_says}
use Rattle.glance.proofs.bottom.Goals as goal

pub returns : goal.returns
returns c =
    let a = c.args in
    let letters = c.letters_of-letters.ensures in
    and_then
    (adds_as (ap₂ (strips_say (meaning a.s)) c.strip_keys.ensures letters) c.strips-a.ensures)
    (adds_as (ap (λ (ls : List ℕ). legend_says (names_of a.names) a.keys ls a.more) letters) c.legend.ensures)
