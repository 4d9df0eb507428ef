-- A counter in a local is the number of its bits.
use mathlib.Core.Path.{◌≡◌, ap, ◌∙◌}
use Prim.Native.Nat.{ℕ, ◌%◌, ◌^◌}
use lib.IntN.{ℤ}
use mir.Syntax.{w32, w64}
use mir.Val.{SFits, to_z, of_z}
use mir.Facts.{to_z-of_z, sfits_widen}
use Rattle.styles.specs.declared.Party.{Party}
use Rattle.script.specs.declared.Call.{Call}
use Rattle.script.specs.Args.{number_at, key_at, mark_of}

-- the mark of a call
pub marked : (who : Party) (c : Call) → SFits w32 c.cnt → {key flags lamport : ℕ} → key ≡ key_at c 3 → flags ≡ number_at c 7 % 2 ^ 8 → lamport ≡ number_at c 4 % 2 ^ 32
    → record { key = key; flags = flags; party = who; lamport = lamport; cnt = to_z w32 (of_z w32 c.cnt); peer = number_at c 5; value = c.value } ≡ mark_of who c
marked who c fits k f l = λ i. record { key = k i; flags = f i; party = who; lamport = l i; cnt = to_z-of_z fits i; peer = number_at c 5; value = c.value }

-- a counter that is handed on with 64 bits
pub widened : {z : ℤ} (cnt : ℤ) → SFits w32 cnt → z ≡ to_z w32 (of_z w32 cnt) → to_z w64 (of_z w64 z) ≡ cnt
widened cnt fits e = ap (λ (y : ℤ). to_z w64 (of_z w64 y)) (e ∙ to_z-of_z fits) ∙ to_z-of_z {w = w64} (sfits_widen {w = w32} {w' = w64} {z = cnt} tt fits)
