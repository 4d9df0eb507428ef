-- The lines of pairs, one after another, as the code reads them.
use Rattle.std.specs.Prelude.{Option, Some, None, Result, Ok, Err}
use mathlib.Core.Path.{◌≡◌, refl, sym, ap, ap₂, ◌∙◌}
use mathlib.Core.Bool.{Bool, false}
use mathlib.Core.List.{List, [], ◌∷◌, ◌++◌, append_assoc, append-nil}
use Prim.Native.Nat.{ℕ, zero, suc, ◌+◌, ◌*◌, ◌-◌, ◌≤◌, ◌<◌}
use native.Mathlib.Omega.{arith}
use native.Mathlib.Numerals.{add-one}
use lib.ListN.{length, drop, take, set, length-set, drop_of_length-le}
use lib.Seq.{take-suc-set, take_all, drop-cons}
use Rattle.text_lines.specs.Lines.{Got, bad, got, then, ended, number_line, decimal_from, taken_by, got_by}
use Rattle.text_lines.proofs.Laws.{taken_is, taken_inside}
use Rattle.tanks.specs.declared.Setting.{Setting}
use Rattle.settings_text.specs.declared.Pairs.{Pairs}
use Rattle.settings_text.specs.Text.{share_name, limit_name, version_name, least_limit, pair_lines, ahead, pairs_lines, settings_of, reading_of, no_settings, got_pair, got_pairs, ReadsPair, ReadsPairs}

-- a line that the code has read is the one that the text has there
pub line_of : (name : List ℕ) (least most : ℕ) (text : List ℕ) (from n : ℕ) (r : Option (ℕ × ℕ)) → r ≡ taken_by name (decimal_from least most) text from → number_line name least most n (drop from text) ≡ got_by text n r
line_of name least most text from n r e = sym (taken_is name (decimal_from least most) text from n) ∙ ap (got_by text n) (sym e)

-- ---- One pair
module _ (ordered : Bool) (text : List ℕ) (from t n : ℕ) where
  more : ℕ → ℕ → List ℕ → Got Setting
  more s m x = then (number_line (limit_name t) (least_limit ordered s) 512 m x) λ l m x. got (record { share = s; limit = l }) m x

  share_read : (r : Option (ℕ × ℕ)) → r ≡ taken_by (share_name t) (decimal_from 1 512) text from → pair_lines ordered t n (drop from text) ≡ then (got_by text n r) more
  unfolding pair_lines more
  share_read r e = ap (λ (g : Got ℕ). then g more) (line_of (share_name t) 1 512 text from n r e)

  pub share_wrong : None ≡ taken_by (share_name t) (decimal_from 1 512) text from → ReadsPair ordered text from t n (Err (n + 1))
  share_wrong e = record { is = sym (share_read None e); inside = omega arith; counted = omega arith }

  module _ (s next : ℕ) (e : Some (s, next) ≡ taken_by (share_name t) (decimal_from 1 512) text from) where
    limit_read : (r : Option (ℕ × ℕ)) → r ≡ taken_by (limit_name t) (decimal_from (least_limit ordered s) 512) text next
        → pair_lines ordered t n (drop from text) ≡ then (got_by text (n + 1) r) λ l m x. got (record { share = s; limit = l }) m x
    unfolding more
    limit_read r f =
        share_read (Some (s, next)) e
        ∙ ap (λ (g : Got ℕ). then g λ l m x. got (record { share = s; limit = l }) m x) (line_of (limit_name t) (least_limit ordered s) 512 text next (n + 1) r f)

    pub limit_wrong : None ≡ taken_by (limit_name t) (decimal_from (least_limit ordered s) 512) text next → ReadsPair ordered text from t n (Err (n + 2))
    limit_wrong f =
        let k : n + 2 ≡ n + 1 + 1 = omega arith in
        record { is = ap bad k ∙ sym (limit_read None f); inside = omega arith; counted = omega arith }

    pub both_read : (l last : ℕ) → Some (l, last) ≡ taken_by (limit_name t) (decimal_from (least_limit ordered s) 512) text next → ReadsPair ordered text from t n (Ok (s, l, last))
    both_read l last f =
        let k : n + 2 ≡ n + 1 + 1 = omega arith in
        record {
          is = ap (λ (m : ℕ). got (record { share = s; limit = l }) m (drop last text)) k ∙ sym (limit_read (Some (l, last)) f);
          inside = taken_inside (limit_name t) (decimal_from (least_limit ordered s) 512) text next l last (sym f);
          counted = omega arith;
        }

-- ---- Eight pairs
ahead_ahead : {A : Type 0} (xs ys : List A) (g : Got (List A)) → ahead xs (ahead ys g) ≡ ahead (xs ++ ys) g
ahead_ahead xs ys (bad n) = refl
ahead_ahead xs ys (got zs n x) = ap (λ (l : List _). got l n x) (sym (append_assoc xs ys zs))

pub pairs_bad : (text : List ℕ) (n : ℕ) (r : Pairs) (line : ℕ) → 1 ≤ line → got_pairs text n r line ≡ bad line
pairs_bad text n r zero h = absurd (omega arith)
pairs_bad text n r (suc k) h = refl

-- t pairs are read, and the rest is to come
pub record Underway (ordered : Bool) (text : List ℕ) (from n : ℕ) (settings : List Setting) (at t : ℕ) : Type 0 where
  pub few : t ≤ 8
  pub eight : length settings ≡ 8
  pub inside : at ≤ length text
  pub is : pairs_lines ordered 0 8 n (drop from text) ≡ ahead (take t settings) (pairs_lines ordered t (8 - t) (n + 2 * t) (drop at text))

ahead_none : {A : Type 0} (g : Got (List A)) → g ≡ ahead [] g
ahead_none (bad n) = refl
ahead_none (got xs n x) = refl

pub underway_none : (ordered : Bool) (text : List ℕ) (from n : ℕ) (settings : List Setting) → length settings ≡ 8 → from ≤ length text → Underway ordered text from n settings from 0
underway_none ordered text from n settings e h =
    let k : n ≡ n + 2 * 0 = omega arith in
    record {
      few = omega arith;
      eight = e;
      inside = h;
      is = ahead_none _ ∙ ap (λ (m : ℕ). ahead [] (pairs_lines ordered 0 8 m (drop from text))) k;
    }

module _ (ordered : Bool) (text : List ℕ) (from n : ℕ) (settings : List Setting) (at t : ℕ) (u : Underway ordered text from n settings at t) (h : t < 8) where
  -- the pair that comes next
  next_pair : pairs_lines ordered 0 8 n (drop from text) ≡ ahead (take t settings) (then (pair_lines ordered t (n + 2 * t) (drop at text)) λ s m x. ahead (s ∷ []) (pairs_lines ordered (suc t) (8 - suc t) m x))
  unfolding pairs_lines
  next_pair =
      let k : 8 - t ≡ suc (8 - suc t) = omega arith in
      u.is ∙ ap (λ (j : ℕ). ahead (take t settings) (pairs_lines ordered t j (n + 2 * t) (drop at text))) k

  after_pair : (r : Result (ℕ × ℕ × ℕ) ℕ) → ReadsPair ordered text at t (n + 2 * t) r
      → pairs_lines ordered 0 8 n (drop from text) ≡ ahead (take t settings) (then (got_pair text (n + 2 * t) r) λ s m x. ahead (s ∷ []) (pairs_lines ordered (suc t) (8 - suc t) m x))
  after_pair r p = next_pair ∙ ap (λ (g : Got Setting). ahead (take t settings) (then g λ s m x. ahead (s ∷ []) (pairs_lines ordered (suc t) (8 - suc t) m x))) (sym p.is)

  pub pair_wrong : (line : ℕ) → ReadsPair ordered text at t (n + 2 * t) (Err line) → ReadsPairs ordered text from n (record { line = line; at = 0; settings = no_settings })
  pair_wrong line p = record { is = pairs_bad text (n + 16) (record { line = line; at = 0; settings = no_settings }) line p.counted ∙ sym (after_pair (Err line) p); inside = omega arith }

  pub pair_read : (s l next : ℕ) → ReadsPair ordered text at t (n + 2 * t) (Ok (s, l, next)) → Underway ordered text from n (set settings t (record { share = s; limit = l })) next (t + 1)
  pair_read s l next p =
      let new : Setting = record { share = s; limit = l } in
      let k : n + 2 * t + 2 ≡ n + 2 * (t + 1) = omega arith in
      record {
        few = omega arith;
        eight = length-set settings t new ∙ u.eight;
        inside = p.inside;
        is = after_pair (Ok (s, l, next)) p
            ∙ ahead_ahead (take t settings) (new ∷ []) (pairs_lines ordered (suc t) (8 - suc t) (n + 2 * t + 2) (drop next text))
            ∙ rw (add-one t) (ap₂ (λ (xs : List Setting) (m : ℕ). ahead xs (pairs_lines ordered (suc t) (8 - suc t) m (drop next text))) (sym (take-suc-set settings t new (omega (arith, u.eight)))) (rw (add-one t) at k));
      }

pub pairs_read : (ordered : Bool) (text : List ℕ) (from n : ℕ) (settings : List Setting) (at t : ℕ) → Underway ordered text from n settings at t → 8 ≤ t → ReadsPairs ordered text from n (record { line = 0; at = at; settings = settings })
unfolding pairs_lines
pairs_read ordered text from n settings at t u h =
    let e : t ≡ 8 = omega (arith, u.few) in
    let k : n + 2 * t ≡ n + 16 = omega arith in
    record {
      is = sym (
          u.is
          ∙ ap₂ (λ (j m : ℕ). ahead (take j settings) (pairs_lines ordered j (8 - j) m (drop at text))) e k
          ∙ ap (λ (st : List Setting). got st (n + 16) (drop at text)) (append-nil (take 8 settings) ∙ take_all 8 settings (omega (arith, u.eight))));
      inside = u.inside;
    }

-- ---- A whole text
module _ (text : List ℕ) where
  rest : ℕ → ℕ → List ℕ → Got (List Setting)
  rest v n x = then (pairs_lines false 0 8 n x) λ st n x. ended st n x

  first_line_lem : (r : Option (ℕ × ℕ)) → r ≡ taken_by version_name (decimal_from 1 1) text 0 → settings_of text ≡ then (got_by text 0 r) rest
  unfolding settings_of rest
  first_line_lem r e = ap (λ (g : Got ℕ). then g rest) (line_of version_name 1 1 text 0 0 r e)

  pub version_wrong : None ≡ taken_by version_name (decimal_from 1 1) text 0 → record { number = 12; line = 1; settings = no_settings } ≡ reading_of (settings_of text)
  unfolding reading_of
  version_wrong e = ap reading_of (sym (first_line_lem None e))

  module _ (v start : ℕ) (e : Some (v, start) ≡ taken_by version_name (decimal_from 1 1) text 0) (p : Pairs) (r : ReadsPairs false text start 1 p) where
    pairs_line : (k : ℕ) → p.line ≡ k → settings_of text ≡ then (got_pairs text 17 p k) λ st n x. ended st n x
    unfolding rest
    pairs_line k h =
        first_line_lem (Some (v, start)) e
        ∙ ap (λ (g : Got (List Setting)). then g λ st n x. ended st n x) (sym r.is ∙ ap (got_pairs text 17 p) h)

    pub pairs_wrong : 0 < p.line → record { number = 12; line = p.line; settings = no_settings } ≡ reading_of (settings_of text)
    unfolding reading_of
    pairs_wrong h =
        sym (ap reading_of (pairs_line p.line refl ∙ ap (λ (g : Got (List Setting)). then g λ st n x. ended st n x) (pairs_bad text 17 p p.line (omega arith))))

    module _ (good : p.line ≤ 0) where
      pairs_good : settings_of text ≡ ended p.settings 17 (drop p.at text)
      pairs_good = pairs_line 0 (omega arith)

      pub left_over : p.at < length text → record { number = 12; line = 18; settings = no_settings } ≡ reading_of (settings_of text)
      unfolding reading_of
      left_over h = sym (ap reading_of (pairs_good ∙ ap (ended p.settings 17) (drop-cons text p.at 0 h)))

      pub all_read : length text ≤ p.at → record { number = 0; line = 0; settings = p.settings } ≡ reading_of (settings_of text)
      unfolding reading_of
      all_read h = sym (ap reading_of (pairs_good ∙ ap (ended p.settings 17) (drop_of_length-le text h)))
