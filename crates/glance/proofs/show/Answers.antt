-- The top line, the table, and the strips with their legend, one behind the other.
use mathlib.Core.Path.{ap, ap₂, ◌∙◌}
use mathlib.Core.List.{List}
use Prim.Native.Nat.{ℕ}
use lib.ListN.{get_or}
use Rattle.tanks.specs.Pool.{meaning}
use Rattle.answers.proofs.Laws.{and_then, adds_as}
use Rattle.key_names.specs.Names.{names_of}
use Rattle.key_legend.specs.Letters.{held_first}
use Rattle.glance.specs.Glance.{more_behind, bottom_says, glance_of}
use Rattle.glance.proofs.show.Goals as goal

pub returns : goal.returns
unfolding glance_of
returns c =
    let a = c.args in
    let first = c.plant_keys-first.ensures in
    let keys = c.held_first-keys.ensures ∙ ap₂ held_first c.key_named.ensures first in
    let more = c.more_behind-more.ensures ∙ ap (λ (ks : List ℕ). more_behind (meaning a.s) (get_or ks 7 0)) first in
    and_then (and_then c.top-a.ensures c.table-b.ensures) (adds_as (ap₂ (bottom_says (meaning a.s) (names_of a.names)) keys more) c.bottom.ensures)
