-- The first 17 lines as the code reads them, and all of a text.
use Rattle.std.specs.Prelude.{Option, Some, None}
use mathlib.Core.Path.{◌≡◌, refl, sym, ap, ◌∙◌}
use mathlib.Core.Bool.{Bool, true, false, cond}
use mathlib.Core.List.{List, [], ◌∷◌}
use Prim.Native.Nat.{ℕ, zero, suc, ◌+◌, ◌≤◌, ◌<◌}
use native.Mathlib.Omega.{arith}
use lib.Dec.{leb}
use lib.ListN.{length, get_or, drop, drop_of_length-le}
use lib.Seq.{drop-cons}
use borrow.Author.Tests.{le-leb}
use Rattle.text_lines.specs.Lines.{Got, bad, got, then, provided, ended, decimal_from, taken_by}
use Rattle.runs.proofs.ScanLaws.{all_yes}
use Rattle.tanks.specs.declared.Setting.{Setting}
use Rattle.tanks.specs.declared.Tanks.{Tanks}
use Rattle.tanks.specs.declared.Opened.{Opened}
use Rattle.tanks.specs.Settings.{no_setting, keeps_rule, shares, accepted}
use Rattle.tanks.specs.House.{fresh_house, open_number, opening}
use Rattle.tanks.specs.Pool.{meaning, Sound}
use Rattle.tanks.specs.Promises.{Opens}
use Rattle.tanks.proofs.SettingLaws as rule
use Rattle.settings_text.specs.declared.Pairs.{Pairs}
use Rattle.settings_text.specs.Text.{version_name, pairs_lines, InRange, AllInRange, got_pairs, ReadsPairs}
use Rattle.settings_text.proofs.Exact.{AllOrdered, pairs_only}
use Rattle.settings_text.proofs.Laws.{pairs_bad}
use Rattle.saved.specs.declared.Begun.{Begun}
use Rattle.saved.specs.declared.Filled.{Filled}
use Rattle.saved.specs.Saved.{Saved}
use Rattle.saved.specs.Saying.{settings_lines, tanks_lines, newest, Said, saying}
use Rattle.saved.specs.Reads.{Fills, ReadsTanks, behind_settings, Begins, restore_number, restore_line, restored, Restores}
use Rattle.saved.proofs.Steps.{step_bad, step_on}
use Rattle.saved.proofs.Restoring.{settings_of_lem}

-- ---- settings that were read in order keep the rule of a pair
range_at : (st : List Setting) → AllInRange st → (u : ℕ) → u < length st → InRange (get_or st u no_setting)
unfolding AllInRange
range_at [] a u h = absurd (omega arith)
range_at (s ∷ st) a zero h = a.0
range_at (s ∷ st) a (suc u) h = range_at st a.1 u (omega arith)

ordered_at : (st : List Setting) → AllOrdered true st → (u : ℕ) → u < length st → (get_or st u no_setting).share ≤ (get_or st u no_setting).limit
unfolding AllOrdered
ordered_at [] a u h = absurd (omega arith)
ordered_at (s ∷ st) a zero h = a.0
ordered_at (s ∷ st) a (suc u) h = ordered_at st a.1 u (omega arith)

pair_keeps : (s : Setting) → InRange s → s.share ≤ s.limit → keeps_rule s ≡ true
pair_keeps s i o = rw (le-leb 1 s.share i.share_least) (rw (le-leb s.share s.limit o) (le-leb s.limit 512 i.limit_most))

pub accepted_is : (n : ℕ) (text : List ℕ) (st : List Setting) (m : ℕ) (rest : List ℕ) → pairs_lines true 0 8 n text ≡ got st m rest → leb (shares st 8) 512 ≡ accepted st
accepted_is n text st m rest e =
    let p = pairs_only true 8 0 n text st m rest e in
    rule.accepts_last st (shares st 8) 8 refl refl
    (all_yes (λ t. keeps_rule (get_or st t no_setting)) 0 8 (λ u a b. pair_keeps (get_or st u no_setting) (range_at st p.range u (omega (arith, p.count))) (ordered_at st p.ordered u (omega (arith, p.count)))))

-- ---- the first 17 lines
abbrev i2 : ℕ → List Setting → ℕ → List ℕ → Got Said
i2 v st n t = then (tanks_lines v st [] 8 n t) λ ss n t. ended (record { version = v; settings = st; tanks = ss }) n t

abbrev i1 : ℕ → ℕ → List ℕ → Got Said
i1 v n t = then (settings_lines n t) (i2 v)

module _ (text : List ℕ) where
  begin_wrong : (line : ℕ) → 1 ≤ line → (r : Begun) → r.line ≡ line → r.at ≡ 0 → saying newest text ≡ bad line → Begins text r
  begin_wrong line one r e a h = record {
    good = λ z. absurd (omega arith);
    wrong = λ z. h ∙ ap bad (sym e);
    sound = λ z. absurd (omega arith);
    fresh = λ z. absurd (omega arith);
    inside = omega arith;
  }

  abbrev pub Version : Option (ℕ × ℕ) → Type 0
  Version r = r ≡ taken_by version_name (decimal_from 1 newest) text 0

  pub version_wrong : Version None → (r : Begun) → r.line ≡ 1 → r.at ≡ 0 → Begins text r
  unfolding saying
  version_wrong e r p a = begin_wrong 1 (omega arith) r p a (sym (step_bad (saying newest text) version_name 1 newest text 0 0 i1 refl e))

  module _ (v start : ℕ) (e : Version (Some (v, start))) (p : Pairs) (rp : ReadsPairs true text start 1 p) where
    version_on : saying newest text ≡ i1 v 1 (drop start text)
    unfolding saying
    version_on = step_on (saying newest text) version_name 1 newest text 0 0 i1 refl v start e

    pairs_step : (i : ℕ) → p.line ≡ i → saying newest text ≡ then (then (got_pairs text 17 p i) λ st n t. provided (leb (shares st 8) 512) st n t) (i2 v)
    unfolding settings_lines
    pairs_step i q =
        version_on
        ∙ ap (λ (g : Got (List Setting)). then (then g λ st n t. provided (leb (shares st 8) 512) st n t) (i2 v)) (sym rp.is ∙ ap (got_pairs text 17 p) q)

    pub settings_wrong : 0 < p.line → (r : Begun) → r.line ≡ p.line → r.at ≡ 0 → Begins text r
    settings_wrong z r q a = begin_wrong p.line (omega arith) r q a
        (pairs_step p.line refl ∙ ap (λ (g : Got (List Setting)). then (then g λ st n t. provided (leb (shares st 8) 512) st n t) (i2 v)) (pairs_bad text 17 p p.line (omega arith)))

    module _ (z : p.line ≤ 0) (o : Opened) (op : Opens p.settings o) where
      good : p.line ≡ 0
      good = omega arith

      sum_is : leb (shares p.settings 8) 512 ≡ accepted p.settings
      sum_is = accepted_is 1 (drop start text) p.settings 17 (drop p.at text) (sym rp.is ∙ ap (got_pairs text 17 p) good)

      behind_pairs : saying newest text ≡ then (provided (accepted p.settings) p.settings 17 (drop p.at text)) (i2 v)
      behind_pairs = pairs_step 0 good ∙ ap (λ (b : Bool). then (provided b p.settings 17 (drop p.at text)) (i2 v)) sum_is

      by_number : (b : Bool) → accepted p.settings ≡ b → (0 < o.number → b ≡ false) × (o.number ≤ 0 → b ≡ true)
      unfolding open_number
      by_number true q = let y : o.number ≡ 0 = op.number_is ∙ ap (λ (b : Bool). cond b 0 2) q in ((λ w. absurd (omega arith)), (λ w. refl))
      by_number false q = let y : o.number ≡ 2 = op.number_is ∙ ap (λ (b : Bool). cond b 0 2) q in ((λ w. refl), (λ w. absurd (omega arith)))

      pub shares_wrong : 0 < o.number → (r : Begun) → r.line ≡ 17 → r.at ≡ 0 → Begins text r
      shares_wrong w r q a = begin_wrong 17 (omega arith) r q a (behind_pairs ∙ ap (λ (b : Bool). then (provided b p.settings 17 (drop p.at text)) (i2 v)) ((by_number (accepted p.settings) refl).0 w))

      pub begun : o.number ≤ 0 → Begins text (record { line = 0; at = p.at; version = v; tanks = o.tanks })
      unfolding opening
      begun w =
          let yes-rule : accepted p.settings ≡ true = (by_number (accepted p.settings) refl).1 w in
          let m : meaning o.tanks ≡ fresh_house p.settings = op.is ∙ ap (λ (b : Bool). fresh_house (cond b p.settings (lib.ListN.replicate 8 (record { share = 1; limit = 1 })))) yes-rule in
          let same : o.tanks.settings ≡ p.settings = settings_of_lem o.tanks (fresh_house p.settings) m in
          record {
            good = λ q. behind_pairs ∙ ap (λ (b : Bool). then (provided b p.settings 17 (drop p.at text)) (i2 v)) yes-rule ∙ ap (λ (st : List Setting). behind_settings v st 17 (drop p.at text)) (sym same);
            wrong = λ q. absurd (omega arith);
            sound = λ q. op.sound;
            fresh = λ q. m ∙ ap fresh_house (sym same);
            inside = rp.inside;
          }

-- ---- all of a text
module _ (s : Tanks) (ok : Sound s) (text : List ℕ) where
  pub refused_by : (line : ℕ) → saying newest text ≡ bad line → Restores s text (record { number = 13; line = line; tanks = s })
  refused_by line e = record { number_is = sym (ap restore_number e); line_is = sym (ap restore_line e); is = sym (ap (restored (meaning s)) e); sound = ok }

  module _ (b : Begun) (rb : Begins text b) where
    pub begin_refused : 0 < b.line → Restores s text (record { number = 13; line = b.line; tanks = s })
    begin_refused z = refused_by b.line (rb.wrong z)

    module _ (z : b.line ≤ 0) (f : Filled) (rf : ReadsTanks b.version b.tanks.settings text b.at f) where
      behind : saying newest text ≡ behind_settings b.version b.tanks.settings 17 (drop b.at text)
      behind = rb.good (omega arith)

      pub tanks_refused : 0 < f.line → Restores s text (record { number = 13; line = f.line; tanks = s })
      tanks_refused w = refused_by f.line (behind ∙ ap (λ (g : Got (List Saved)). then g λ ss n t. ended (record { version = b.version; settings = b.tanks.settings; tanks = ss }) n t) (rf.wrong w))

      module _ (w : f.line ≤ 0) where
        fills : Fills b.version b.tanks.settings text b.at f
        fills = rf.good (omega arith)

        said : Said
        said = record { version = b.version; settings = b.tanks.settings; tanks = fills.saved }

        to_end : saying newest text ≡ ended (record { version = b.version; settings = b.tanks.settings; tanks = fills.saved }) f.lines (drop f.at text)
        to_end = behind ∙ ap (λ (g : Got (List Saved)). then g λ ss n t. ended (record { version = b.version; settings = b.tanks.settings; tanks = ss }) n t) fills.is

        pub left_over : f.at < length text → Restores s text (record { number = 13; line = f.lines + 1; tanks = s })
        left_over h = refused_by (f.lines + 1) (to_end ∙ ap (ended (record { version = b.version; settings = b.tanks.settings; tanks = fills.saved }) f.lines) (drop-cons text f.at 0 h))

        pub all_restored : length text ≤ f.at → Restores s text (record { number = 0; line = 0; tanks = f.tanks })
        all_restored h =
            let e : saying newest text ≡ got (record { version = b.version; settings = b.tanks.settings; tanks = fills.saved }) f.lines [] = to_end ∙ ap (ended (record { version = b.version; settings = b.tanks.settings; tanks = fills.saved }) f.lines) (drop_of_length-le text h) in
            record { number_is = sym (ap restore_number e); line_is = sym (ap restore_line e); is = fills.means ∙ sym (ap (restored (meaning s)) e); sound = rf.sound }
