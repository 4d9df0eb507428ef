-- The front, the tanks, the legend, and the end.
use Prim.Native.Nat.{ℕ}
use mathlib.Core.Bool.{Bool}
use mathlib.Core.List.{List}
use mathlib.Core.Path.{ap, ap₂, ◌∙◌}
use lib.ListN.{get_or}
use Rattle.answers.proofs.Laws.{and_then, adds_as}
use Rattle.key_names.specs.Names.{names_of}
use Rattle.key_legend.specs.Keys.{first_key, next_key}
use Rattle.std.specs.Prelude.{None}
use Rattle.tanks.specs.Pool.{meaning}
use Rattle.picture.specs.Bands.{tanks_say}
use Rattle.picture.specs.Picture.{legend_says, coloured_keys, hold_key, picture_of}
use lib.Dec.{ltb}
use Rattle.picture.proofs.picture.Goals as goal

pub returns : goal.returns
unfolding picture_of
returns c =
    let a = c.args in
    let h = meaning a.s in
    let ns = names_of a.names in
    let keys = c.either_keys-keys.ensures in
    let hold = c.key_named-hold.ensures in
    let some = ap (λ (k : ℕ). ltb k 65536) (c.first_key-higher.ensures ∙ ap (λ (n : ℕ). first_key None n h) (c.next.ensures ∙ ap (λ (ks : List ℕ). next_key (get_or ks 11 0)) keys)) in
    and_then c.heading-a.ensures (and_then (adds_as (ap₂ (λ (ks : List ℕ) (x : ℕ). tanks_say h ks x) keys hold) c.tanks_drawn-b.ensures) (and_then (adds_as (ap₂ (λ (ks : List ℕ) (x : ℕ). legend_says ns ks (ltb c.first_key-higher.result 65536) x) keys hold ∙ ap (λ (b : Bool). legend_says ns (coloured_keys h) b (hold_key ns)) some) c.legend_drawn-c.ensures) c.say.ensures))
