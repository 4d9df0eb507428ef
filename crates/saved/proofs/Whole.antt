-- One meaning, one text: an accepted text is the text of the house that it says, in its version.
use mathlib.Core.Path.{◌≡◌, refl, sym, ap, ap₂, ◌∙◌}
use mathlib.Core.Bool.{true}
use mathlib.Core.List.{List, [], ◌∷◌, ◌++◌, append_assoc, append-nil, map}
use Prim.Native.Nat.{ℕ, ◌≤◌}
use lib.Dec.{leb}
use lib.ListN.{length}
use borrow.Author.Tests.{leb-true}
use Rattle.text_lines.specs.Lines.{Got, got, then, provided, ended, number_text}
use Rattle.text_lines.proofs.Then.{then_got, provided_got, ended_got, number_then}
use Rattle.tanks.specs.declared.Setting.{Setting}
use Rattle.tanks.specs.Settings.{shares}
use Rattle.settings_text.specs.Text.{version_name, pairs_text, pairs_lines, AllInRange}
use Rattle.settings_text.proofs.Exact.{PairsRead, pairs_only, AllOrdered}
use Rattle.saved.specs.Saved.{Saved, saved_of, tanks_text, saved_text, house_text}
use Rattle.saved.specs.Saying.{Said, settings_lines, tanks_lines, saying, view_in, house_in}
use Rattle.saved.proofs.TankLines.{Keeps, AllKeep, tanks_only}
use Rattle.saved.proofs.Meant.{Faithful, said_back}

abbrev pub i3 : ℕ → List Setting → List Saved → ℕ → List ℕ → Got Said
i3 v st ss n t = ended (record { version = v; settings = st; tanks = ss }) n t

abbrev pub i2 : ℕ → List Setting → ℕ → List ℕ → Got Said
i2 v st n t = then (tanks_lines v st [] 8 n t) (i3 v st)

abbrev pub i1 : ℕ → ℕ → List ℕ → Got Said
i1 v n t = then (settings_lines n t) (i2 v)

-- what is known of an accepted text
pub record Accepted (last : ℕ) (text : List ℕ) (s : Said) : Type 0 where
  pub is : text ≡ saved_text s.version s.settings s.tanks
  pub version_least : 1 ≤ s.version
  pub version_most : s.version ≤ last
  pub pairs : length s.settings ≡ 8
  pub range : AllInRange s.settings
  pub ordered : AllOrdered true s.settings
  pub shared : shares s.settings 8 ≤ 512
  pub eight : length s.tanks ≡ 8
  pub keep : AllKeep s.version s.settings [] s.tanks

-- the settings' lines
record SettingsRead (t : List ℕ) (st : List Setting) (rest : List ℕ) : Type 0 where
  pub pairs : PairsRead true 8 0 t st rest
  pub shared : shares st 8 ≤ 512

settings_by : (t u rest : List ℕ) (st st' : List Setting) → PairsRead true 8 0 t st u → shares st 8 ≤ 512 → st ≡ st' → u ≡ rest → SettingsRead t st' rest
settings_by t u rest st st' q h e f = rw (← e) (rw (← f) (record { pairs = q; shared = h }))

settings_only : (n : ℕ) (t : List ℕ) (st : List Setting) (m : ℕ) (rest : List ℕ) → settings_lines n t ≡ got st m rest → SettingsRead t st rest
unfolding settings_lines
settings_only n t st m rest e =
    let a = then_got (pairs_lines true 0 8 n t) (λ st n t. provided (leb (shares st 8) 512) st n t) st m rest e in
    let p = provided_got (leb (shares a.value 8) 512) a.value a.lines a.text st m rest a.second in
    let q = pairs_only true 8 0 n t a.value a.lines a.text a.first in
    settings_by t a.text rest a.value st q (leb-true (shares a.value 8) 512 p.0) p.1 p.3

-- three parts one behind the other
three_parts : (a b c t u v : List ℕ) → t ≡ a ++ u → u ≡ b ++ v → v ≡ c → t ≡ a ++ b ++ c
three_parts a b c t u v p q r = p ∙ ap (λ (l : List ℕ). a ++ l) (q ∙ ap (λ (l : List ℕ). b ++ l) r) ∙ sym (append_assoc a b c)

tanks_alone : (v : ℕ) (t : List ℕ) → tanks_text v 0 [] ++ t ≡ t
unfolding tanks_text
tanks_alone v t = refl

pub said_only : (last : ℕ) (text : List ℕ) (s : Said) (m : ℕ) (rest : List ℕ) → saying last text ≡ got s m rest → Accepted last text s
unfolding saying saved_text
said_only last text s m rest e =
    let a = number_then version_name 1 last 0 text i1 s m rest e in
    let b = then_got (settings_lines 1 a.text) (i2 a.value) s m rest a.second in
    let c = then_got (tanks_lines a.value b.value [] 8 b.lines b.text) (i3 a.value b.value) s m rest b.second in
    let d = ended_got (record { version = a.value; settings = b.value; tanks = c.value }) c.lines c.text s m rest c.second in
    let x = settings_only 1 a.text b.value b.lines b.text b.first in
    let y = tanks_only a.value 8 b.value [] b.lines b.text c.value c.lines c.text c.first in
    rw (← d.0)
    record {
      is = three_parts (number_text version_name a.value) (pairs_text 0 b.value) (tanks_text a.value 0 c.value) text a.text b.text a.is x.pairs.is
          (sym (tanks_alone a.value b.text) ∙ y.is ∙ ap (λ (l : List ℕ). tanks_text a.value 0 c.value ++ l) d.1 ∙ append-nil (tanks_text a.value 0 c.value));
      version_least = a.low;
      version_most = a.high;
      pairs = x.pairs.count;
      range = x.pairs.range;
      ordered = x.pairs.ordered;
      shared = x.shared;
      eight = ap length y.both ∙ y.count;
      keep = rw y.both y.keep;
    }

-- ---- over the meaning
pub faithful_of : {v : ℕ} {st : List Setting} {held : List ℕ} {i : ℕ} {s : Saved} → Keeps v st held i s → Faithful s
faithful_of k = record { sorted = k.sorted; canon = k.canon; sum = sym k.sum; whole = k.whole }

all_back : (v : ℕ) (st : List Setting) (before ss : List Saved) → AllKeep v st before ss → map saved_of (map view_in ss) ≡ ss
unfolding AllKeep
all_back v st before [] h = refl
all_back v st before (s ∷ ss) h = ap₂ (λ (x : Saved) (xs : List Saved). x ∷ xs) (said_back s (faithful_of h.0)) (all_back v st (before ++ s ∷ []) ss h.1)

-- an accepted text is the text of what it means
pub accepted_text : (last : ℕ) (text : List ℕ) (s : Said) (m : ℕ) (rest : List ℕ) → saying last text ≡ got s m rest → text ≡ house_text s.version (house_in s)
unfolding house_text
accepted_text last text s m rest e =
    let a = said_only last text s m rest e in
    a.is ∙ ap (saved_text s.version s.settings) (sym (all_back s.version s.settings [] s.tanks a.keep))

-- one meaning has one text within a version
pub one_text : (last : ℕ) (a b : List ℕ) (s t : Said) (m n : ℕ) (x y : List ℕ) → saying last a ≡ got s m x → saying last b ≡ got t n y → s.version ≡ t.version → house_in s ≡ house_in t → a ≡ b
one_text last a b s t m n x y e f v h = accepted_text last a s m x e ∙ ap₂ house_text v h ∙ sym (accepted_text last b t n y f)
