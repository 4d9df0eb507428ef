-- How long a text of the newest version can be: 117,930 bytes are enough for every sound state. `Sound` leaves a mark's fields any width, so
-- each of their numbers counts with the twenty digits that a decimal has at most.
use mathlib.Core.Path.{◌≡◌, refl, sym, ap}
use mathlib.Core.Bool.{Bool, true, false}
use mathlib.Core.List.{List, [], ◌∷◌, ◌++◌, map}
use Prim.Native.Nat.{ℕ, zero, suc, ◌+◌, ◌*◌, ◌/◌, ◌^◌, ◌≤◌, ◌<◌}
use native.Mathlib.Omega.{arith}
use native.Mathlib.Nat.{pow-suc, pow-zero}
use native.Mathlib.Numerals.{add-one}
use native.Mathlib.Decide.{dec_lt}
use borrow.Author.Tests.{lt-ltb, le-ltb}
use lib.IntN.{ℤ, pos, negsuc}
use lib.ListN.{length, get_or, take, length-append}
use lib.Seq.{take_all}
use lib.Ieee.{to_bits, binary64}
use Rattle.text.specs.Bytes.{bytes}
use Rattle.text.specs.Number.{places_from, decimal_text, hex_text}
use Rattle.text.specs.Signed.{signed_text}
use Rattle.text.proofs.Laws.{length_digits, length_hex}
use Rattle.text_lines.specs.Lines.{word_text, number_text, digits_text}
use Rattle.styles.specs.declared.Value.{Value}
use Rattle.styles.specs.declared.Mark.{Mark}
use Rattle.styles.specs.declared.Party.{Party}
use Rattle.styles.specs.declared.Party.TheVariants.{Plant, Lab}
use Rattle.script.specs.Writing.{value_text, counter_text}
use Rattle.runs.specs.Runs.{Run, total}
use Rattle.runs.proofs.Laws.{length_runs}
use Rattle.tank.specs.declared.Tank.{Tank}
use Rattle.tank.specs.State.{runs_of, table_of, view, Formed}
use Rattle.tank.proofs.Unique.{table_length}
use Rattle.tanks.specs.declared.Setting.{Setting}
use Rattle.tanks.specs.declared.Tanks.{Tanks}
use Rattle.tanks.specs.Settings.{no_setting, accepted}
use Rattle.tanks.specs.Pool.{runs_below, tank_in, tank_of, meaning, Sound}
use Rattle.tanks.proofs.SettingLaws.{accepted_at, sound_held}
use Rattle.tanks.proofs.MeaningLaws.{tank_at_lem}
use Rattle.runs.specs.Positions.{sum_below}
use Rattle.lists.specs.Lists.{list_refusal}
use Rattle.settings_text.specs.Text.{share_name, limit_name, version_name, pair_text, pairs_text}
use Rattle.saved.specs.Saved.{flag_of, party_name, saved_mark, marks_text, run_text, runs_text, tank_text, tanks_text, saved_text, saved_of, house_text}
use Rattle.saved.specs.Saying.{newest}
use Rattle.saved.specs.Writes.{written, write_number, most_bytes}
use Rattle.saved.proofs.Pieces.{pairs_more, tanks_more, tank_stored, tanks_eight, tanks_all}

-- ---- numbers
places_few : (f n : ℕ) → places_from f n ≤ suc f
unfolding places_from
places_few zero n = omega arith
places_few (suc f) n =
    elim (dec_lt n 10) [
      | yes h ↦ rw (lt-ltb n 10 h) (omega arith)
      | no h ↦ rw (le-ltb n 10 (omega arith)) (omega (arith, places_few f (n / 10)))
    ]

places_below : (f n k : ℕ) → n < 10 ^ suc k → places_from f n ≤ suc k
unfolding places_from
places_below zero n k l = omega arith
places_below (suc f) n zero l = rw (lt-ltb n 10 (omega (arith, pow-suc 10 0, pow-zero 10))) (omega arith)
places_below (suc f) n (suc k) l =
    elim (dec_lt n 10) [
      | yes h ↦ rw (lt-ltb n 10 h) (omega arith)
      | no h ↦ rw (le-ltb n 10 (omega arith)) (omega (arith, places_below f (n / 10) k (omega (arith, pow-suc 10 (suc k)))))
    ]

-- a decimal has at most twenty digits
pub decimal_most : (n : ℕ) → length (decimal_text n) ≤ 20
unfolding decimal_text
decimal_most n = omega (arith, length_digits 10 (places_from 19 n) n, places_few 19 n)

-- and k where it is below 10^k
pub decimal_below : (n k : ℕ) → n < 10 ^ suc k → length (decimal_text n) ≤ suc k
unfolding decimal_text
decimal_below n k h = omega (arith, length_digits 10 (places_from 19 n) n, places_below 19 n k h)

signed_most : (z : ℤ) → length (signed_text z) ≤ 21
unfolding signed_text
signed_most (pos n) = omega (arith, decimal_most n)
signed_most (negsuc n) = omega (arith, decimal_most (suc n))

-- ---- lines
word_length : (name word : List ℕ) → length (word_text name word) ≡ length name + length word + 1
word_length name word = omega (arith, length-append (name ++ word) (bytes "\n"), length-append name word)

number_most : (name : List ℕ) (n : ℕ) → length (number_text name n) ≤ length name + 21
number_most name n = omega (arith, word_length name (decimal_text n), decimal_most n)

number_below : (name : List ℕ) (n k : ℕ) → n < 10 ^ suc k → length (number_text name n) ≤ length name + suc k + 1
number_below name n k h = omega (arith, word_length name (decimal_text n), decimal_below n k h)

digits_length : (name : List ℕ) (n : ℕ) → length (digits_text name n) ≡ length name + 17
digits_length name n = omega (arith, word_length name (hex_text n), length_hex n)

-- ---- a mark
value_most : (v : Value) → length (value_text v) ≤ 39
unfolding value_text
value_most Value.Null = omega arith
value_most (Value.Flag true) = omega arith
value_most (Value.Flag false) = omega arith
value_most (Value.Whole z) =
    omega (arith, length-append (word_text (bytes "kind=") (bytes "whole")) (word_text (bytes "value=") (signed_text z)), word_length (bytes "value=") (signed_text z), signed_most z)
value_most (Value.Decimal x) =
    omega (
      arith,
      length-append (word_text (bytes "kind=") (bytes "decimal")) (word_text (bytes "value=") (hex_text (to_bits binary64 x))),
      word_length (bytes "value=") (hex_text (to_bits binary64 x)),
      length_hex (to_bits binary64 x),
    )

party_most : (who : Party) → length (word_text (bytes "party=") (party_name who)) ≤ 12
party_most Plant = omega arith
party_most Lab = omega arith

-- seven texts, one behind the other
seven : (a b c d e f g : List ℕ) → length (a ++ b ++ c ++ d ++ e ++ f ++ g) ≡ length a + length b + length c + length d + length e + length f + length g
seven a b c d e f g =
    omega (
      arith,
      length-append a b,
      length-append (a ++ b) c,
      length-append (a ++ b ++ c) d,
      length-append (a ++ b ++ c ++ d) e,
      length-append (a ++ b ++ c ++ d ++ e) f,
      length-append (a ++ b ++ c ++ d ++ e ++ f) g,
    )

mark_most : (m : Mark) → length (saved_mark newest m) ≤ 184
unfolding saved_mark
mark_most m =
    let party = word_text (bytes "party=") (party_name m.party) in
    let key = number_text (bytes "key=") m.key in
    let lamport = number_text (bytes "lamport=") m.lamport in
    let peer = number_text (bytes "peer=") m.peer in
    let flags = number_text (bytes "flags=") m.flags in
    omega (
      arith,
      seven party key lamport peer (counter_text m.cnt) flags (value_text m.value),
      party_most m.party,
      number_most (bytes "key=") m.key,
      number_most (bytes "lamport=") m.lamport,
      number_most (bytes "peer=") m.peer,
      word_length (bytes "cnt=") (signed_text m.cnt),
      signed_most m.cnt,
      number_most (bytes "flags=") m.flags,
      value_most m.value,
    )

marks_most : (ms : List Mark) → length (marks_text newest ms) ≤ 184 * length ms
unfolding marks_text
marks_most [] = omega arith
marks_most (m ∷ ms) = omega (arith, length-append (saved_mark newest m) (marks_text newest ms), mark_most m, marks_most ms)

-- ---- a run: its length is below 2^63
run_most : (r : Run) → r.len < 2 ^ 63 → length (run_text r) ≤ 45
run_most r h =
    omega (
      arith,
      length-append (number_text (bytes "len=") r.len) (digits_text (bytes "set=") r.set),
      number_below (bytes "len=") r.len 18 (omega arith),
      digits_length (bytes "set=") r.set,
    )

runs_most : (rs : List Run) → total rs < 2 ^ 63 → length (runs_text rs) ≤ 45 * length rs
unfolding runs_text total
runs_most [] h = omega arith
runs_most (r ∷ rs) h = omega (arith, length-append (runs_text rs) (run_text r), runs_most rs (omega arith), run_most r (omega arith))

-- ---- a tank
flag_most : (b : Bool) → flag_of b < 10
flag_most true = omega arith
flag_most false = omega arith

tank_most : (t : ℕ) (x : Tank) → t < 8 → Formed x → length (tank_text newest t (saved_of (view x))) ≤ 11838 + 45 * x.runs
unfolding tank_text
tank_most t x h f =
    let marks = table_length f.laid in
    let held = length_runs x.lens x.sets x.runs in
    omega (
      arith,
      ap length (tank_stored newest t f),
      seven
          (number_text (bytes "tank=") t)
          (number_text (bytes "touched=") (flag_of x.touched))
          (number_text (bytes "length=") x.length)
          (number_text (bytes "marks=") (length (table_of x)))
          (marks_text newest (table_of x))
          (number_text (bytes "runs=") (length (runs_of x)))
          (runs_text (runs_of x)),
      number_below (bytes "tank=") t 0 (omega arith),
      number_below (bytes "touched=") (flag_of x.touched) 0 (omega (arith, flag_most x.touched)),
      number_below (bytes "length=") x.length 18 (omega (arith, f.laid.small)),
      number_below (bytes "marks=") (length (table_of x)) 1 (omega (arith, marks, f.laid.few)),
      marks_most (table_of x),
      marks,
      f.laid.few,
      number_below (bytes "runs=") (length (runs_of x)) 2 (omega (arith, held, f.laid.most)),
      runs_most (runs_of x) (omega (arith, f.laid.sum, f.laid.small)),
      held,
    )

-- ---- all of it
pair_most : (st : List Setting) (t : ℕ) → t < 8 → accepted st ≡ true → length (pair_text t (get_or st t no_setting)) ≤ 22
pair_most st t h ok =
    let s = get_or st t no_setting in
    let k = accepted_at st ok t h in
    omega (
      arith,
      length-append (number_text (share_name t) s.share) (number_text (limit_name t) s.limit),
      number_below (share_name t) s.share 2 (omega (arith, k.order, k.high)),
      number_below (limit_name t) s.limit 2 (omega (arith, k.high)),
    )

pairs_most : (st : List Setting) → length st ≡ 8 → accepted st ≡ true → (t : ℕ) → t ≤ 8 → length (pairs_text 0 (take t st)) ≤ 22 * t
unfolding pairs_text
pairs_most st e ok zero h = omega arith
pairs_most st e ok (suc t) h =
    omega (
      arith,
      ap (λ (n : ℕ). length (pairs_text 0 (take n st))) (add-one t),
      ap length (pairs_more st t (omega arith)),
      length-append (pairs_text 0 (take t st)) (pair_text t (get_or st t no_setting)),
      pairs_most st e ok t (omega arith),
      pair_most st t (omega arith) ok,
    )

module _ (s : Tanks) (sound : Sound s) where
  tanks_most : (t : ℕ) → t ≤ 8 → length (tanks_text newest 0 (map saved_of (take t (meaning s).tanks))) ≤ 11838 * t + 45 * runs_below s.heads t
  unfolding tanks_text sum_below tank_of tank_in
  tanks_most zero h = omega arith
  tanks_most (suc t) h =
      omega (
        arith,
        ap (λ (n : ℕ). length (tanks_text newest 0 (map saved_of (take n (meaning s).tanks)))) (add-one t),
        ap length (tanks_more newest (meaning s).tanks t (view (tank_of s t)) (omega (arith, tanks_eight s)) (sym (tank_at_lem s t (omega arith)))),
        length-append (tanks_text newest 0 (map saved_of (take t (meaning s).tanks))) (tank_text newest t (saved_of (view (tank_of s t)))),
        tanks_most t (omega arith),
        tank_most t (tank_of s t) (omega arith) (sound.each t (omega arith)),
      )

  -- the text of a sound state
  pub written_most : length (written (meaning s)) ≤ most_bytes
  unfolding house_text saved_text meaning
  written_most =
      omega (
        arith,
        length-append (number_text version_name 3 ++ pairs_text 0 s.settings) (tanks_text newest 0 (map saved_of (meaning s).tanks)),
        length-append (number_text version_name 3) (pairs_text 0 s.settings),
        number_below version_name 3 0 (omega arith),
        ap (λ (l : List Setting). length (pairs_text 0 l)) (take_all 8 s.settings (omega (arith, sound.settings_8))),
        pairs_most s.settings sound.settings_8 sound.rule 8 (omega arith),
        ap length (tanks_all newest s 8 (omega arith)),
        tanks_most 8 (omega arith),
        sound_held s sound,
      )

  -- so a buffer of so many bytes is never too short
  pub written_fits : (room : ℕ) → most_bytes ≤ room → write_number room (meaning s) ≡ 0
  unfolding list_refusal
  written_fits room h = rw (le-ltb room (length (written (meaning s))) (omega (arith, written_most))) refl
