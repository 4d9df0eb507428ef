-- A turn of the loops over a set's marks and over a list of stretches.
use mathlib.Core.Path.{◌≡◌, refl, sym, ap, ◌∙◌}
use mathlib.Core.List.{List, [], ◌∷◌, ◌++◌, map, map-append, flat_map}
use Prim.Native.Nat.{ℕ, zero, suc, ◌+◌, ◌-◌, ◌*◌, ◌≤◌, ◌<◌, min}
use native.Mathlib.Decide.{dec_le}
use native.Mathlib.Omega.{arith}
use lib.ListN.{length, get_or, take, drop, length-drop, take-append-drop}
use lib.Seq.{take-suc, take_all, drop-drop}
use Rattle.styles.specs.declared.Mark.{Mark}
use Rattle.styles.specs.Marks.{blank}
use Rattle.text.specs.Bytes.{bytes}
use Rattle.script.specs.Writing.{mark_text}
use Rattle.tanks.specs.declared.Setting.{Setting}
use Rattle.tanks.specs.Settings.{no_setting}
use Rattle.night.specs.declared.Range.{Range}
use Rattle.night.specs.Plans.{no_range}
use Rattle.answers.specs.Replies.{line_says, pair_says, pairs_say, range_says, ranges_say, stretches_say, cut_up, piece_count}

-- one mark more
pub marks_more : (ms : List Mark) (n : ℕ) → n < length ms → map mark_text (take n ms) ++ (mark_text (get_or ms n blank) ∷ []) ≡ map mark_text (take (n + 1) ms)
marks_more ms n h =
    let e : suc n ≡ n + 1 = omega arith in
    sym (map-append mark_text (take n ms) (get_or ms n blank ∷ [])) ∙ sym (ap (map mark_text) (take-suc ms n blank h)) ∙ ap (λ (k : ℕ). map mark_text (take k ms)) e

-- one pair more
pub pair_more : (t : ℕ) (st : List Setting) → t < 8 → pairs_say (8 - t) t st ≡ pair_says t (get_or st t no_setting) ++ pairs_say (8 - (t + 1)) (t + 1) st
unfolding pairs_say
pair_more t st h =
    let e : 8 - t ≡ suc (8 - (t + 1)) = omega arith in
    let f : suc t ≡ t + 1 = omega arith in
    ap (λ (n : ℕ). pairs_say n t st) e ∙ ap (λ (j : ℕ). pair_says t (get_or st t no_setting) ++ pairs_say (8 - (t + 1)) j st) f

-- none is left
pub pair_none : (t : ℕ) (st : List Setting) → 8 ≤ t → pairs_say (8 - t) t st ≡ []
unfolding pairs_say
pair_none t st h = let e : 8 - t ≡ 0 = omega arith in ap (λ (n : ℕ). pairs_say n t st) e

-- one range more
pub range_more : (n i : ℕ) (xs : List Range) → i < n → ranges_say (n - i) i xs ≡ range_says (get_or xs i no_range) ++ ranges_say (n - (i + 1)) (i + 1) xs
unfolding ranges_say
range_more n i xs h =
    let e : n - i ≡ suc (n - (i + 1)) = omega arith in
    let f : suc i ≡ i + 1 = omega arith in
    ap (λ (m : ℕ). ranges_say m i xs) e ∙ ap (λ (j : ℕ). range_says (get_or xs i no_range) ++ ranges_say (n - (i + 1)) j xs) f

pub range_none : (n i : ℕ) (xs : List Range) → n ≤ i → ranges_say (n - i) i xs ≡ []
unfolding ranges_say
range_none n i xs h = let e : n - i ≡ 0 = omega arith in ap (λ (m : ℕ). ranges_say m i xs) e

-- ---- three numbers to a stretch
-- what is behind the first three
pub rest_is : (l : List ℕ) → take (length l - 3) (drop 3 l) ≡ drop 3 l
rest_is l = take_all (length l - 3) (drop 3 l) (omega (arith, length-drop 3 l))

pub stretch_more : (l : List ℕ) → 3 ≤ length l → stretches_say l ≡ line_says (bytes "from=") (get_or l 0 0) ++ line_says (bytes "to=") (get_or l 1 0) ++ line_says (bytes "marks=") (get_or l 2 0) ++ stretches_say (take (length l - 3) (drop 3 l))
unfolding stretches_say
stretch_more [] h = absurd (omega arith)
stretch_more (a ∷ []) h = absurd (omega arith)
stretch_more (a ∷ b ∷ []) h = absurd (omega arith)
stretch_more (a ∷ b ∷ c ∷ l) h = ap (λ (k : List ℕ). line_says (bytes "from=") a ++ line_says (bytes "to=") b ++ line_says (bytes "marks=") c ++ stretches_say k) (sym (rest_is (a ∷ b ∷ c ∷ l)))

-- fewer are none
pub stretch_none : (l : List ℕ) → length l < 3 → stretches_say l ≡ []
unfolding stretches_say
stretch_none [] h = refl
stretch_none (a ∷ []) h = refl
stretch_none (a ∷ b ∷ []) h = refl
stretch_none (a ∷ b ∷ c ∷ l) h = absurd (omega arith)

-- ---- pieces of a text
-- the piece that begins at a place is what the text has from there on, as far as a piece goes
pub piece_is : (t : List ℕ) (from : ℕ) → from ≤ length t → take (min (from + 192) (length t) - from) (drop from t) ≡ take 192 (drop from t)
piece_is t from h =
    elim (dec_le (from + 192) (length t)) [
      | yes k ↦ let e : min (from + 192) (length t) - from ≡ 192 = omega arith in ap (λ (n : ℕ). take n (drop from t)) e
      | no k ↦
          let l = length-drop from t in
          take_all (min (from + 192) (length t) - from) (drop from t) (omega arith) ∙ sym (take_all 192 (drop from t) (omega arith))
    ]

-- one piece more
pub cut_more : (n i : ℕ) (t : List ℕ) → i < n → cut_up (n - i) i t ≡ (take 192 (drop (192 * i) t) ∷ []) ++ cut_up (n - (i + 1)) (i + 1) t
unfolding cut_up
cut_more n i t h =
    let e : n - i ≡ suc (n - (i + 1)) = omega arith in
    let f : suc i ≡ i + 1 = omega arith in
    ap (λ (m : ℕ). cut_up m i t) e ∙ ap (λ (j : ℕ). take 192 (drop (192 * i) t) ∷ cut_up (n - (i + 1)) j t) f

pub cut_none : (n i : ℕ) (t : List ℕ) → n ≤ i → cut_up (n - i) i t ≡ []
unfolding cut_up
cut_none n i t h = let e : n - i ≡ 0 = omega arith in ap (λ (m : ℕ). cut_up m i t) e

-- the pieces one behind the other are the text
none_behind : (n : ℕ) (t : List ℕ) → length t ≤ n → [] ≡ drop n t
none_behind zero [] h = refl
none_behind zero (x ∷ xs) h = absurd (omega arith)
none_behind (suc n) [] h = refl
none_behind (suc n) (x ∷ xs) h = none_behind n xs (omega arith)

joined_from : (n i : ℕ) (t : List ℕ) → length t ≤ 192 * i + 192 * n → flat_map (λ piece. piece) (cut_up n i t) ≡ drop (192 * i) t
unfolding cut_up flat_map
joined_from zero i t h = none_behind (192 * i) t (omega arith)
joined_from (suc n) i t h =
    let e : 192 * suc i ≡ 192 * i + 192 = omega arith in
    ap (λ (u : List ℕ). take 192 (drop (192 * i) t) ++ u) (joined_from n (suc i) t (omega arith) ∙ ap (λ (k : ℕ). drop k t) e ∙ sym (drop-drop 192 (192 * i) t))
    ∙ take-append-drop 192 (drop (192 * i) t)

pub cut_whole : (t : List ℕ) → flat_map (λ piece. piece) (cut_up (piece_count (length t)) 0 t) ≡ t
cut_whole t = joined_from (piece_count (length t)) 0 t (omega arith)
