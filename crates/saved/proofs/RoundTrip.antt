-- Reading what was written gives it back: the text of settings and tanks that keep the rules is accepted, and says them.
use mathlib.Core.Path.{◌≡◌, refl, sym, ap, ap₂, ◌∙◌}
use mathlib.Core.Bool.{true, false}
use mathlib.Core.List.{List, [], ◌++◌, append_assoc, append-nil}
use Prim.Native.Nat.{ℕ, ◌^◌, ◌≤◌, ◌<◌}
use native.Mathlib.Omega.{arith}
use lib.Dec.{leb}
use lib.ListN.{length}
use borrow.Author.Tests.{le-leb}
use Rattle.text.specs.Bytes.{holds}
use Rattle.text_lines.specs.Lines.{Got, bad, got, then, provided, number_line, number_text}
use Rattle.text_lines.proofs.Laws.{number_back, number_over}
use Rattle.tanks.specs.declared.Setting.{Setting}
use Rattle.tanks.specs.Settings.{shares}
use Rattle.settings_text.specs.Text.{version_name, pairs_text, pairs_lines, AllInRange}
use Rattle.settings_text.proofs.Exact.{AllOrdered, after_pairs, pairs_back}
use Rattle.saved.specs.Saved.{Saved, tanks_text, saved_text}
use Rattle.saved.specs.Saying.{Said, settings_lines, tanks_lines, saying}
use Rattle.saved.proofs.TankLines.{AllKeep}
use Rattle.saved.proofs.MarksBack.{Back}
use Rattle.saved.proofs.TanksBack.{AllFitIn, tanks_back}
use Rattle.saved.proofs.Whole.{i1, i2, i3}

pub version_free : holds 10 version_name ≡ false
unfolding holds
version_free = refl

-- settings that keep the opening's rule
pub record GoodSettings (st : List Setting) : Type 0 where
  pub eight : length st ≡ 8
  pub range : AllInRange st
  pub ordered : AllOrdered true st
  pub shared : shares st 8 ≤ 512

settings_back : (st : List Setting) (rest : List ℕ) → GoodSettings st → settings_lines 1 (pairs_text 0 st ++ rest) ≡ got st 17 rest
unfolding settings_lines
settings_back st rest g =
    let p : pairs_lines true 0 8 1 (pairs_text 0 st ++ rest) ≡ got st 17 rest =
    ap (λ (k : ℕ). pairs_lines true 0 k 1 (pairs_text 0 st ++ rest)) (sym g.eight) ∙ pairs_back true st 0 1 rest g.range g.ordered ∙ ap (λ (k : ℕ). got st (after_pairs 1 k) rest) g.eight
    in
    ap (λ (x : Got (List Setting)). then x λ st n t. provided (leb (shares st 8) 512) st n t) p ∙ rw (le-leb (shares st 8) 512 g.shared)

pub said_again : (last v : ℕ) (st : List Setting) (ss : List Saved) → 1 ≤ v → v ≤ last → v < 2 ^ 64 → GoodSettings st → length ss ≡ 8 → AllKeep v st [] ss → AllFitIn ss
    → Back (saying last (saved_text v st ss)) (record { version = v; settings = st; tanks = ss }) []
unfolding saying saved_text
said_again last v st ss a b c g e k f =
    let t = tanks_back v ss [] st 17 [] (omega (arith, ap length (append-nil ss))) k f in
    let said : Said = record { version = v; settings = st; tanks = ss } in
    record {
      lines = t.lines;
      is = ap (λ (x : List ℕ). then (number_line version_name 1 last 0 x) i1) (append_assoc (number_text version_name v) (pairs_text 0 st) (tanks_text v 0 ss))
          ∙ ap (λ (x : Got ℕ). then x i1) (number_back version_name 1 last 0 v (pairs_text 0 st ++ tanks_text v 0 ss) version_free a b c)
          ∙ ap (λ (x : Got (List Setting)). then x (i2 v)) (settings_back st (tanks_text v 0 ss) g)
          ∙ ap₂ (λ (j : ℕ) (x : List ℕ). then (tanks_lines v st [] j 17 x) (i3 v st)) (sym e) (sym (append-nil (tanks_text v 0 ss)))
          ∙ ap (λ (x : Got (List Saved)). then x (i3 v st)) t.is;
    }

-- an old reader refuses a newer version at line 1
pub newer_refused : (last v : ℕ) (st : List Setting) (ss : List Saved) → last < v → v < 2 ^ 64 → saying last (saved_text v st ss) ≡ bad 1
unfolding saying saved_text
newer_refused last v st ss h c =
    ap (λ (x : List ℕ). then (number_line version_name 1 last 0 x) i1) (append_assoc (number_text version_name v) (pairs_text 0 st) (tanks_text v 0 ss))
    ∙ ap (λ (x : Got ℕ). then x i1) (number_over version_name 1 last 0 v (pairs_text 0 st ++ tanks_text v 0 ss) version_free h c)
