-- The names before place i have other keys.
use mathlib.Core.Path.{◌≡◌}
use Prim.Native.Nat.{◌+◌, ◌-◌}
use Rattle.key_names.specs.Names.{place_of, listed, held_in}
use Rattle.key_names.proofs.place_of.Given as goal

abbrev pub invariant-loop-i : goal.invariant-loop-i
invariant-loop-i l = place_of (listed (held_in l.names.keys l.names.lens l.names.texts) 0 l.names.count) l.key ≡ l.i + place_of (listed (held_in l.names.keys l.names.lens l.names.texts) l.i (l.names.count - l.i)) l.key
