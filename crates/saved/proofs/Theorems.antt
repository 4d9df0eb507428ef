-- What is promised of a saved text beside `accepted_text` and `one_text` (Whole), `read_newest` (FromState) and `newest_same`, `refused_same`, `one_restore`
-- (Again): which versions a reader takes, what a version can say, and what holds of a restored state.
use mathlib.Core.Path.{◌≡◌, refl, sym, ap, ◌∙◌, subst}
use mathlib.Core.List.{List, [], ◌∷◌, ◌++◌, map}
use Prim.Native.Nat.{ℕ, zero, suc, ◌^◌, ◌≤◌, ◌<◌}
use native.Mathlib.Omega.{arith}
use lib.ListN.{length, get_or}
use Rattle.text_lines.specs.Lines.{Got, bad, got, then, number_line}
use Rattle.text_lines.proofs.Laws.{number_back}
use Rattle.text_lines.proofs.Then.{number_then}
use Rattle.tank.specs.Rules.{fresh_view, carried}
use Rattle.tank.specs.State.{table_of, Roomy}
use Rattle.tanks.specs.declared.Setting.{Setting}
use Rattle.tanks.specs.declared.Tanks.{Tanks}
use Rattle.tanks.specs.House.{House}
use Rattle.tanks.specs.Pool.{tank_of, meaning, Sound}
use Rattle.settings_text.specs.Text.{version_name}
use Rattle.saved.specs.declared.Restored.{Restored}
use Rattle.saved.specs.Saved.{Saved, AllSayable, SayableHouse, saved_of, house_text}
use Rattle.saved.specs.Saying.{Said, saying, view_in, house_in}
use Rattle.saved.specs.Reads.{Restores}
use Rattle.saved.proofs.TankLines.{Keeps, AllKeep}
use Rattle.saved.proofs.Whole.{i1, said_only, faithful_of}
use Rattle.saved.proofs.Meant.{said_back}
use Rattle.saved.proofs.MarksBack.{AllFit}
use Rattle.saved.proofs.FromState.{stored_from, read_back, read_means}
use Rattle.saved.proofs.RoundTrip.{version_free, newer_refused}

-- ---- Versions
-- a reader that knows no version as new refuses a house's text at line 1
pub newer_house : (last v : ℕ) (h : House) → last < v → v < 2 ^ 64 → saying last (house_text v h) ≡ bad 1
unfolding house_text
newer_house last v h l w = newer_refused last v h.settings (map saved_of h.tanks) l w

-- so the reader of change request 6 as it was refuses versions 2 and 3
pub first_reader : (h : House) → (saying 1 (house_text 2 h) ≡ bad 1) × (saying 1 (house_text 3 h) ≡ bad 1)
first_reader h = (newer_house 1 2 h (omega arith) (omega arith), newer_house 1 3 h (omega arith) (omega arith))

-- what an older reader takes, a newer one takes as well, and it says the same
pub older_taken : (older last : ℕ) (text : List ℕ) (s : Said) (m : ℕ) (rest : List ℕ) → older ≤ last → older < 2 ^ 64 → saying older text ≡ got s m rest → saying last text ≡ got s m rest
unfolding saying
older_taken older last text s m rest l w e =
    let a = number_then version_name 1 older 0 text i1 s m rest e in
    ap (λ (t : List ℕ). then (number_line version_name 1 last 0 t) i1) a.is
    ∙ ap (λ (g : Got ℕ). then g i1) (number_back version_name 1 last 0 a.value a.text version_free a.low (omega (arith, a.high)) (omega (arith, a.high)))
    ∙ a.second

-- ---- What a version can say
-- the marks that a tank carries which was written down are those that were
carried_saved : {v : ℕ} {st : List Setting} {held : List ℕ} {i : ℕ} {s : Saved} → Keeps v st held i s → carried (view_in s) ≡ s.marks
unfolding saved_of
carried_saved {v} {st} {held} {i} {s} k = ap (λ (x : Saved). x.marks) (said_back s (faithful_of k))

sayable_at : (v : ℕ) (st : List Setting) (before ss : List Saved) → AllKeep v st before ss → (t : ℕ) → t < length ss → AllSayable v (carried (get_or (map view_in ss) t fresh_view))
unfolding AllKeep
sayable_at v st before [] k t h = absurd (omega arith)
sayable_at v st before (s ∷ ss) k zero h = subst (AllSayable v) (sym (carried_saved k.0)) k.0.sayable
sayable_at v st before (s ∷ ss) k (suc t) h = sayable_at v st (before ++ s ∷ []) ss k.1 t (omega arith)

-- a house that a text says, its version can say: version 1 the plant's marks alone, versions 1 and 2 none with a counter
pub said_sayable : (last : ℕ) (text : List ℕ) (s : Said) (m : ℕ) (rest : List ℕ) → saying last text ≡ got s m rest → SayableHouse s.version (house_in s)
said_sayable last text s m rest e t h =
    let a = said_only last text s m rest e in
    sayable_at s.version s.settings [] s.tanks a.keep t (omega (arith, a.eight))

-- what was read of a house's text: all of it, in that version, and the house
pub record SaysHouse (last v : ℕ) (h : House) : Type 0 where
  pub said : Said
  pub lines : ℕ
  pub is : saying last (house_text v h) ≡ got said lines []
  pub version : said.version ≡ v
  pub means : house_in said ≡ h

-- the text of a sound state, in a version that can say it, says it to every reader of that version or newer
pub says_house : (last v : ℕ) (s : Tanks) → Sound s → 1 ≤ v → v ≤ last → v < 2 ^ 64 → SayableHouse v (meaning s) → ((t : ℕ) → t < 8 → AllFit (table_of (tank_of s t))) → SaysHouse last v (meaning s)
says_house last v s sound a b c y f =
    let r = read_back v s sound y last a b c f in
    record { said = record { version = v; settings = s.settings; tanks = stored_from s 0 8 }; lines = r.lines; is = r.is; version = refl; means = read_means v s }

-- ---- A restored state
-- each tank has room for its marks: at most 64, and where the lab has one, what both are taken to need is at most 64
pub restored_room : (s : Tanks) (text : List ℕ) (r : Restored) → Restores s text r → (t : ℕ) → t < 8 → Roomy (table_of (tank_of r.tanks t))
restored_room s text r h t l = (h.sound.each t l).laid.roomy
