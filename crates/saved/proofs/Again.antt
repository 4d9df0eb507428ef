-- A restore of what was written hands back the state that was written; a refused one hands back the state that there was.
use mathlib.Core.Path.{◌≡◌, refl, sym, ap, ◌∙◌}
use mathlib.Core.List.{List, []}
use Prim.Native.Nat.{ℕ, ◌≤◌, ◌<◌}
use native.Mathlib.Omega.{arith}
use Rattle.text_lines.specs.Lines.{Got, bad, got}
use Rattle.tank.specs.State.{table_of}
use Rattle.tanks.specs.declared.Tanks.{Tanks}
use Rattle.tank.specs.Rules.{carried}
use Rattle.tanks.specs.House.{tank_at}
use Rattle.tanks.specs.Pool.{tank_of, meaning, Sound}
use Rattle.tanks.proofs.Unique.{unique}
use Rattle.saved.specs.declared.Restored.{Restored}
use Rattle.saved.specs.Saved.{SayableHouse, house_text}
use Rattle.saved.specs.Saying.{newest, Said, saying}
use Rattle.saved.specs.Writes.{written, SaidAgain}
use Rattle.saved.specs.Reads.{restore_number, restore_line, restored, Restores}
use Rattle.saved.proofs.MarksBack.{AllFit}
use Rattle.saved.proofs.FromState.{stored_from, read_back, read_means, newest_says}

-- what was written of a sound state, in a version that can say its marks, which fit their widths, restored into any sound state
module _ (v : ℕ) (least : 1 ≤ v) (most : v ≤ newest) (s : Tanks) (ok : Sound s) (sayable : SayableHouse v (meaning s)) (fit : (t : ℕ) → t < 8 → AllFit (table_of (tank_of s t))) (u : Tanks) (r : Restored) (h : Restores u (house_text v (meaning s)) r) where
  said : saying newest (house_text v (meaning s)) ≡ got (record { version = v; settings = s.settings; tanks = stored_from s 0 8 }) (read_back v s ok sayable newest least most (omega arith) fit).lines []
  said = (read_back v s ok sayable newest least most (omega arith) fit).is

  pub restored_number : r.number ≡ 0
  restored_number = h.number_is ∙ ap restore_number said

  pub restored_line : r.line ≡ 0
  restored_line = h.line_is ∙ ap restore_line said

  pub restored_means : meaning r.tanks ≡ meaning s
  restored_means = h.is ∙ ap (restored (meaning u)) said ∙ read_means v s

  pub restored_same : r.tanks ≡ s
  restored_same = unique r.tanks s h.sound ok restored_means

-- the newest version can say every state
pub newest_same : (s : Tanks) → Sound s → ((t : ℕ) → t < 8 → AllFit (table_of (tank_of s t))) → (u : Tanks) (r : Restored) → Restores u (house_text newest (meaning s)) r
    → (r.number ≡ 0) × (r.line ≡ 0) × (r.tanks ≡ s)
newest_same s ok fit u r h =
    let all : SayableHouse newest (meaning s) = λ t l. newest_says newest (omega arith) (carried (tank_at (meaning s) t)) in (
      restored_number newest (omega arith) (omega arith) s ok all fit u r h,
      restored_line newest (omega arith) (omega arith) s ok all fit u r h,
      restored_same newest (omega arith) (omega arith) s ok all fit u r h,
    )

-- what `write` promises of its text is enough: restored anywhere, it is the very same state
pub written_same : (s : Tanks) → Sound s → SaidAgain (meaning s) → (u : Tanks) (r : Restored) → Restores u (written (meaning s)) r
    → (r.number ≡ 0) × (r.line ≡ 0) × (r.tanks ≡ s)
written_same s ok again u r h = (
  h.number_is ∙ ap restore_number again.is,
  h.line_is ∙ ap restore_line again.is,
  unique r.tanks s h.sound ok (h.is ∙ ap (restored (meaning u)) again.is ∙ again.means),
)

-- a wrong text
module _ (u : Tanks) (ok : Sound u) (text : List ℕ) (r : Restored) (h : Restores u text r) where
  kept_means : (g : Got Said) → saying newest text ≡ g → r.number ≡ 13 → meaning r.tanks ≡ meaning u
  kept_means (bad n) e q = h.is ∙ ap (restored (meaning u)) e
  kept_means (got s n rest) e q = let z : r.number ≡ 0 = h.number_is ∙ ap restore_number e in absurd (omega arith)

  pub refused_same : r.number ≡ 13 → r.tanks ≡ u
  refused_same q = unique r.tanks u h.sound ok (kept_means (saying newest text) refl q)

-- two results of one call are one
pub one_restore : (u : Tanks) (text : List ℕ) (r q : Restored) → Restores u text r → Restores u text q → r ≡ q
one_restore u text r q h g =
    let a : r.number ≡ q.number = h.number_is ∙ sym g.number_is in
    let b : r.line ≡ q.line = h.line_is ∙ sym g.line_is in
    let c : r.tanks ≡ q.tanks = unique r.tanks q.tanks h.sound g.sound (h.is ∙ sym g.is) in
    λ i. record { number = a i; line = b i; tanks = c i }
