-- The names before name i are other words.
use mathlib.Core.Path.{◌≡◌}
use Prim.Native.Nat.{◌-◌}
use Rattle.key_names.specs.Names.{key_named, listed, held_in}
use Rattle.key_names.proofs.key_among.Given as goal

abbrev pub invariant-loop-i : goal.invariant-loop-i
invariant-loop-i l = key_named (listed (held_in l.keys l.lens l.texts) l.i (l.n - l.i)) l.word ≡ key_named (listed (held_in l.keys l.lens l.texts) 0 l.n) l.word
