-- Demand 3: a call on one tank changes no answer about another, whatever is asked of it and whoever asks; and what a party is answered hangs on
-- what it is shown alone.
use Prim.Native.Nat.{ℕ}
use mathlib.Core.Path.{◌≡◌, ap, ◌∙◌}
use mathlib.Core.Logic.{◌≢◌}
use mathlib.Core.Bool.{cond}
use mathlib.Core.List.{List}
use Rattle.styles.specs.declared.Party.{Party}
use Rattle.tank.specs.Rules.{View, Edit, runs_held, shown_to}
use Rattle.tanks.specs.declared.Tanks.{Tanks}
use Rattle.tanks.specs.House.{House, no_tank, tank_at, held, ask_number, after_at, Call, after_all}
use Rattle.tanks.specs.Parties.{Alike, SameAccepted}
use Rattle.tanks.specs.Pool.{meaning}
use Rattle.tanks.specs.Promises.{CalledAt, counts, says}
use Rattle.tanks.proofs.Theorems.{others_stay}
use Rattle.tanks.proofs.PartyLaws.{Orderly, noninterference}
use Rattle.ask.specs.Asks.{ask_at}

module _ (h : House) (t : ℕ) (e : Edit) (u : ℕ) (ne : u ≢ t) where
  -- every question and every list is `ask_at` of something asked of one view
  pub asked_stays : {R : Type 0} (who : Party) (refused : R) (asks : View → R) → ask_at (after_at h t e) u who refused asks ≡ ask_at h u who refused asks
  asked_stays who refused asks = ap (λ (v : View). cond (no_tank u) refused (asks (shown_to who v))) (others_stay h t e u ne)

  pub length_stays : counts (ask_number u) (tank_at (after_at h t e) u).length ≡ counts (ask_number u) (tank_at h u).length
  length_stays = ap (λ (v : View). counts (ask_number u) v.length) (others_stay h t e u ne)

  pub touched_stays : says (ask_number u) (tank_at (after_at h t e) u).touched ≡ says (ask_number u) (tank_at h u).touched
  touched_stays = ap (λ (v : View). says (ask_number u) v.touched) (others_stay h t e u ne)

  pub runs_stay : counts (ask_number u) (held (after_at h t e) u) ≡ counts (ask_number u) (held h u)
  runs_stay = ap (λ (v : View). counts (ask_number u) (runs_held v)) (others_stay h t e u ne)

-- the same of the code's own states: `CalledAt` is what every edit's statement says of them
pub answer_stays : {R : Type 0} (s next : Tanks) (t : ℕ) (e : Edit) (number u : ℕ) → u ≢ t → CalledAt s t e number next
    → (who : Party) (refused : R) (asks : View → R) → ask_at (meaning next) u who refused asks ≡ ask_at (meaning s) u who refused asks
answer_stays s next t e number u ne called who refused asks =
    ap (λ (h : House). ask_at h u who refused asks) called.is ∙ asked_stays (meaning s) t e u ne who refused asks

-- two houses that show a party the same answer it the same, after the same calls with the same acceptances too
pub answers_alike : {R : Type 0} (who : Party) (g h : House) → Alike who g h → (t : ℕ) (refused : R) (asks : View → R)
    → ask_at g t who refused asks ≡ ask_at h t who refused asks
answers_alike who g h alike t refused asks = ap (λ (v : View). cond (no_tank t) refused (asks v)) (alike t)

pub answers_after : {R : Type 0} (who : Party) (cs : List Call) (g h : House) → Orderly g → Orderly h → Alike who g h → SameAccepted g h cs
    → (t : ℕ) (refused : R) (asks : View → R) → ask_at (after_all g cs) t who refused asks ≡ ask_at (after_all h cs) t who refused asks
answers_after who cs g h og oh alike same t refused asks =
    answers_alike who (after_all g cs) (after_all h cs) (noninterference who cs g h og oh alike same) t refused asks
