-- What is promised of a glance: the table tells two states apart by every number that it shows, and no byte of it is lost.
use Rattle.std.specs.Prelude.{Some}
use Prim.Native.Nat.{ℕ, zero, suc, ◌+◌, ◌-◌, ◌/◌, ◌%◌, ◌^◌, ◌≤◌, ◌<◌}
use mathlib.Core.Path.{◌≡◌, refl, sym, ap, ap₂, subst, ◌∙◌}
use mathlib.Core.Bool.{Bool, true, false, cond}
use mathlib.Core.List.{List, [], ◌∷◌, ◌++◌, map, flatten, append_assoc}
use native.Mathlib.Decide.{dec_lt}
use native.Mathlib.Nat.{pow-le-pow_right}
use native.Mathlib.Omega.{arith}
use lib.Dec.{eqb}
use lib.ListN.{length, get_or, take, replicate, length-append, length-replicate}
use borrow.Author.Tests.{ne_eqb}
use Rattle.io.specs.Digits.{hex_digit_ascii, last_digits}
use Rattle.text.specs.Number.{decimal_text, decimal_of}
use Rattle.text.proofs.Steps.{glyph_low}
use Rattle.text.proofs.Laws.{digits_front, decimal_text_lem, decimal_back}
use Rattle.script.specs.Writing.{most_written}
use Rattle.styles.specs.declared.Party.TheVariants.{Plant, Lab}
use Rattle.tank.specs.Rules.{View, runs_held, carried, marks_of}
use Rattle.tank.specs.State.{view}
use Rattle.tank.proofs.Unique.{marks_carried, table_length}
use Rattle.tank.proofs.CrowdLaws.{parties_all}
use Rattle.tanks.specs.declared.Setting.{Setting}
use Rattle.tanks.specs.declared.Tanks.{Tanks}
use Rattle.tanks.specs.Settings.{no_setting}
use Rattle.tanks.specs.House.{House, tank_at}
use Rattle.tanks.specs.Pool.{tank_of, meaning, Sound}
use Rattle.tanks.proofs.SettingLaws.{accepted_at}
use Rattle.tanks.proofs.MeaningLaws.{tank_at_lem, held_is}
use Rattle.answers.specs.Waiting.{Pieces, waiting, piece_room, Adds, sent}
use Rattle.answers.proofs.Sent.{nothing_lost}
use Rattle.key_names.specs.Names.{Named}
use Rattle.pen.specs.Pen.{right_text}
use Rattle.glance.specs.Glance.{each_from, of_eight, column, touched_word, row_says, row_at, table_head, table_says, glance_of, SameRow}

-- ---- a number in its column
few_digits : (n k : ℕ) → n < 2 ^ 64 → 1 ≤ k → n < 10 ^ k → length (decimal_text n) ≤ k
few_digits n k h one g =
    let f = (decimal_text_lem n h).fewest in
    elim (dec_lt k (length (decimal_text n))) [
      | yes l ↦ absurd (omega (arith, g, pow-le-pow_right {n = 10} (omega arith) {i = k} {j = length (decimal_text n) - 1} (omega arith), f.2 (omega arith)))
      | no l ↦ omega arith
    ]

column_length : (w n : ℕ) → length (decimal_text n) ≤ w → length (column w n) ≡ w
column_length w n h =
    omega (arith, h, length-append (replicate (w - length (decimal_text n)) 32) (decimal_text n), length-replicate {A = ℕ} (w - length (decimal_text n)) 32)

-- the blanks in front taken away
unfoldable unpadded : List ℕ → List ℕ
unpadded [] = []
unpadded (c ∷ cs) = cond (eqb c 32) (unpadded cs) (c ∷ cs)

unpad_blanks : (k : ℕ) (t : List ℕ) → unpadded (replicate k 32 ++ t) ≡ unpadded t
unfolding unpadded
unpad_blanks zero t = refl
unpad_blanks (suc k) t = unpad_blanks k t

unpad_digits : (k n : ℕ) → 1 ≤ k → unpadded (last_digits 10 k n) ≡ last_digits 10 k n
unfolding unpadded
unpad_digits zero n h = absurd (omega arith)
unpad_digits (suc k) n h =
    let d = n / 10 ^ k % 10 in
    ap unpadded (digits_front 10 k n)
    ∙ ap (λ (b : Bool). cond b (unpadded (last_digits 10 k n)) (hex_digit_ascii d ∷ last_digits 10 k n)) (ne_eqb (hex_digit_ascii d) 32 (λ z. omega (arith, z, glyph_low d (omega arith))))
    ∙ sym (digits_front 10 k n)

unpad_decimal : (n : ℕ) → n < 2 ^ 64 → unpadded (decimal_text n) ≡ decimal_text n
unpad_decimal n h =
    let x = decimal_text_lem n h in
    ap unpadded x.spelled ∙ unpad_digits (length (decimal_text n)) n x.fewest.0 ∙ sym x.spelled

pub column_tells : (w n m : ℕ) → n < 2 ^ 64 → m < 2 ^ 64 → column w n ≡ column w m → n ≡ m
column_tells w n m h g e =
    let t : decimal_text n ≡ decimal_text m =
    sym (unpad_decimal n h) ∙ sym (unpad_blanks (w - length (decimal_text n)) (decimal_text n)) ∙ ap unpadded e ∙ unpad_blanks (w - length (decimal_text m)) (decimal_text m) ∙ unpad_decimal m g
    in
    let p : Some n ≡ Some m = sym (decimal_back n h) ∙ ap decimal_of t ∙ decimal_back m g in
    cc

touched_length : (b : Bool) → length (right_text 10 (touched_word b)) ≡ 10
touched_length true = refl
touched_length false = refl

touched_tells : (a b : Bool) → right_text 10 (touched_word a) ≡ right_text 10 (touched_word b) → a ≡ b
touched_tells true true e = refl
touched_tells false false e = refl
touched_tells true false e = let z : ◌≡◌ {A = ℕ} 121 32 = ap (λ (l : List ℕ). get_or l 7 0) e in absurd (omega (arith, z))
touched_tells false true e = let z : ◌≡◌ {A = ℕ} 32 121 = ap (λ (l : List ℕ). get_or l 7 0) e in absurd (omega (arith, z))

-- ---- texts one behind the other, each as long as its fellow
parts : (a b c d : List ℕ) → length a ≡ length b → a ++ c ≡ b ++ d → (a ≡ b) × (c ≡ d)
parts [] [] c d l e = (refl, e)
parts [] (y ∷ b) c d l e = absurd (omega (arith, l))
parts (x ∷ a) [] c d l e = absurd (omega (arith, l))
parts (x ∷ a) (y ∷ b) c d l e =
    let h : x ≡ y = cc in
    let t : a ++ c ≡ b ++ d = cc in
    let r = parts a b c d (omega (arith, l)) t in
    (ap₂ (λ (z : ℕ) (zs : List ℕ). z ∷ zs) h r.0, r.1)

apart : (ps qs : Pieces) → map length ps ≡ map length qs → flatten ps ≡ flatten qs → ps ≡ qs
unfolding flatten
apart [] [] l e = refl
apart [] (q ∷ qs) l e = absurd (omega (arith, ap length l))
apart (p ∷ ps) [] l e = absurd (omega (arith, ap length l))
apart (p ∷ ps) (q ∷ qs) l e =
    let h : length p ≡ length q = cc in
    let t : map length ps ≡ map length qs = cc in
    let r = parts p q (flatten ps) (flatten qs) h e in
    ap₂ (λ (z : List ℕ) (zs : Pieces). z ∷ zs) r.0 (apart ps qs t r.1)

as_long : (ps qs : Pieces) → map length ps ≡ map length qs → length (flatten ps) ≡ length (flatten qs)
unfolding flatten
as_long [] [] l = refl
as_long [] (q ∷ qs) l = absurd (omega (arith, ap length l))
as_long (p ∷ ps) [] l = absurd (omega (arith, ap length l))
as_long (p ∷ ps) (q ∷ qs) l =
    let h : length p ≡ length q = cc in
    let t : map length ps ≡ map length qs = cc in
    omega (arith, h, as_long ps qs t, length-append p (flatten ps), length-append q (flatten qs))

flat_append : (ps qs : Pieces) → flatten (ps ++ qs) ≡ flatten ps ++ flatten qs
unfolding flatten
flat_append [] qs = refl
flat_append (p ∷ ps) qs = ap (λ (l : List ℕ). p ++ l) (flat_append ps qs) ∙ sym (append_assoc p (flatten ps) (flatten qs))

-- ---- a row
-- what has room in its columns
record Fits (t : ℕ) (x : Setting) (v : View) : Type 0 where
  number : t < 8
  share : x.share ≤ 512
  limit : x.limit ≤ 512
  runs : runs_held v ≤ 512
  marks : marks_of Plant (carried v) + marks_of Lab (carried v) ≤ 64
  length : v.length < 2 ^ 63

row_widths : (t : ℕ) (x : Setting) (v : View) → Fits t x v → map length (row_says t x v) ≡ 4 ∷ 8 ∷ 8 ∷ 8 ∷ 14 ∷ 12 ∷ 10 ∷ 22 ∷ 1 ∷ []
row_widths t x v f =
    let small : (w n : ℕ) → 4 ≤ w → n < 1000 → length (column w n) ≡ w = λ w n h g. column_length w n (omega (arith, h, few_digits n 4 (omega (arith, g)) (omega arith) (omega (arith, g)))) in
    let a = small 4 t (omega arith) (omega (arith, f.number)) in
    let b = small 8 x.share (omega arith) (omega (arith, f.share)) in
    let c = small 8 x.limit (omega arith) (omega (arith, f.limit)) in
    let d = small 8 (runs_held v) (omega arith) (omega (arith, f.runs)) in
    let e = small 14 (marks_of Plant (carried v)) (omega arith) (omega (arith, f.marks)) in
    let g = small 12 (marks_of Lab (carried v)) (omega arith) (omega (arith, f.marks)) in
    let h = touched_length v.touched in
    let k = column_length 22 v.length (omega (arith, few_digits v.length 19 (omega (arith, f.length)) (omega arith) (omega (arith, f.length)))) in
    λ i. a i ∷ b i ∷ c i ∷ d i ∷ e i ∷ g i ∷ h i ∷ k i ∷ 1 ∷ []

row_tells : (t : ℕ) (x y : Setting) (v w : View) → Fits t x v → Fits t y w → flatten (row_says t x v) ≡ flatten (row_says t y w) → SameRow x v y w
row_tells t x y v w f g same =
    let e = apart (row_says t x v) (row_says t y w) (row_widths t x v f ∙ sym (row_widths t y w g)) same in
    record {
      share = column_tells 8 x.share y.share (omega (arith, f.share)) (omega (arith, g.share)) (ap (λ (l : Pieces). get_or l 1 []) e);
      limit = column_tells 8 x.limit y.limit (omega (arith, f.limit)) (omega (arith, g.limit)) (ap (λ (l : Pieces). get_or l 2 []) e);
      runs = column_tells 8 (runs_held v) (runs_held w) (omega (arith, f.runs)) (omega (arith, g.runs)) (ap (λ (l : Pieces). get_or l 3 []) e);
      plant = column_tells 14 (marks_of Plant (carried v)) (marks_of Plant (carried w)) (omega (arith, f.marks)) (omega (arith, g.marks)) (ap (λ (l : Pieces). get_or l 4 []) e);
      lab = column_tells 12 (marks_of Lab (carried v)) (marks_of Lab (carried w)) (omega (arith, f.marks)) (omega (arith, g.marks)) (ap (λ (l : Pieces). get_or l 5 []) e);
      touched = touched_tells v.touched w.touched (ap (λ (l : Pieces). get_or l 6 []) e);
      length = column_tells 22 v.length w.length (omega (arith, f.length)) (omega (arith, g.length)) (ap (λ (l : Pieces). get_or l 7 []) e);
    }

-- ---- eight of them
rows_tell : (f g : ℕ → Pieces) → ((u : ℕ) → u < 8 → length (flatten (f u)) ≡ length (flatten (g u))) → (n t : ℕ) → t + n ≤ 8
    → flatten (each_from f n t) ≡ flatten (each_from g n t) → (u : ℕ) → t ≤ u → u < t + n → flatten (f u) ≡ flatten (g u)
unfolding each_from
rows_tell f g long zero t h e u a b = absurd (omega arith)
rows_tell f g long (suc n) t h e u a b =
    let r = parts (flatten (f t)) (flatten (g t)) (flatten (each_from f n (suc t))) (flatten (each_from g n (suc t))) (long t (omega arith))
    (sym (flat_append (f t) (each_from f n (suc t))) ∙ e ∙ flat_append (g t) (each_from g n (suc t)))
    in
    elim (dec_lt t u) [
      | yes k ↦ rows_tell f g long n (suc t) (omega arith) r.1 u k (omega arith)
      | no k ↦ let z : t ≡ u = omega arith in subst (λ (j : ℕ). flatten (f j) ≡ flatten (g j)) z r.0
    ]

-- the row of a state's tank
short : (s : Tanks) → Sound s → (t : ℕ) → t < 8 → (view (tank_of s t)).length < 2 ^ 63
unfolding view
short s ok t h = (ok.each t h).laid.small

fits : (s : Tanks) → Sound s → (t : ℕ) → t < 8 → Fits t (get_or (meaning s).settings t no_setting) (tank_at (meaning s) t)
unfolding meaning
fits s ok t h =
    let k = accepted_at s.settings ok.rule t h in
    let l = (ok.each t h).laid in
    record {
      number = h;
      share = omega (arith, k.order, k.high);
      limit = k.high;
      runs = omega (arith, held_is s ok t h, ok.limits t h, k.high);
      marks = omega (
        arith,
        parties_all (carried (tank_at (meaning s) t)),
        ap (λ (v : View). length (carried v)) (tank_at_lem s t h),
        ap length (marks_carried (ok.each t h)),
        table_length l,
        l.few,
      );
      length = subst (λ (v : View). v.length < 2 ^ 63) (sym (tank_at_lem s t h)) (short s ok t h);
    }

-- two sound states of which the table is printed alike have every number of it in common
pub table_tells : (s u : Tanks) → Sound s → Sound u → flatten (table_says (meaning s)) ≡ flatten (table_says (meaning u)) → (t : ℕ) → t < 8
    → SameRow (get_or (meaning s).settings t no_setting) (tank_at (meaning s) t) (get_or (meaning u).settings t no_setting) (tank_at (meaning u) t)
unfolding table_says flatten
table_tells s u ok good same t h =
    let long : (j : ℕ) → j < 8 → length (flatten (row_at (meaning s) j)) ≡ length (flatten (row_at (meaning u) j)) = λ j l. as_long (row_at (meaning s) j) (row_at (meaning u) j) (row_widths j _ _ (fits s ok j l) ∙ sym (row_widths j _ _ (fits u good j l))) in
    let rows = (parts table_head table_head (flatten (of_eight (row_at (meaning s)))) (flatten (of_eight (row_at (meaning u)))) refl same).1 in
    row_tells t _ _ _ _ (fits s ok t h) (fits u good t h) (rows_tell (row_at (meaning s)) (row_at (meaning u)) long 8 0 (omega arith) rows t (omega arith) (omega arith))

-- of a glance put into a buffer that is written out, what went out meanwhile and what waits then are what waited before and all of the glance behind it
pub no_byte_lost : (place : ℕ) (h : House) (names : List Named) {d out : List ℕ} {at after : ℕ} → piece_room ≤ length d → length d ≤ most_written → at ≤ length d → Adds d at (glance_of place h names) after out
    → sent (waiting d at) (glance_of place h names) ++ take after out ≡ take at d ++ flatten (glance_of place h names)
no_byte_lost place h names room small inside x = nothing_lost room small inside x
