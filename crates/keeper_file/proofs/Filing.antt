-- The file as it is written and as it is read back, by lists alone.
use Rattle.std.specs.Prelude.{Option, Some, None}
use mathlib.Core.Path.{◌≡◌, refl, sym, ap, ap₂, subst, ◌∙◌}
use mathlib.Core.Bool.{false}
use mathlib.Core.List.{List, [], ◌++◌}
use Prim.Native.Nat.{ℕ, ◌+◌, ◌-◌, ◌^◌, ◌≤◌, ◌<◌}
use native.Mathlib.Decide.{dec_lt}
use native.Mathlib.Omega.{arith}
use lib.ListN.{length, take, drop, length-append}
use borrow.Author.Tests.{lt-ltb, le-ltb}
use Rattle.text.specs.Bytes.{holds}
use Rattle.text.specs.Number.{put}
use Rattle.text.proofs.Putting.{take_put, put_put}
use Rattle.text_lines.specs.Lines.{Got, bad, got, then, decimal_from, taken_by, got_by}
use Rattle.text_lines.proofs.Laws.{taken_is, number_back}
use Rattle.script.specs.Lines.{counted_of}
use Rattle.script.specs.Writing.{Puts}
use Rattle.runs.specs.Stretches.{in_front}
use Rattle.lists.specs.Lists.{list_refusal, unless_refused}
use Rattle.tanks.specs.declared.Tanks.{Tanks}
use Rattle.tanks.specs.House.{House}
use Rattle.tanks.specs.Pool.{Sound, meaning}
use Rattle.saved.specs.declared.Restored.{Restored}
use Rattle.saved.specs.Saying.{Said, newest, saying, house_in}
use Rattle.saved.specs.Reads.{restore_number, restore_line, restored, Restores}
use Rattle.saved.specs.Writes.{written, SaidAgain}
use Rattle.keeper_file.specs.declared.Back.{Back}
use Rattle.keeper_file.specs.File.{place_name, file_of, Filed, in_file, file_says, FiledAgain, back_number, back_line, back_place, back_house, ReadsBack}

-- ---- Writing
-- a text that was put to the front of a buffer is its front
pub front_text : {d o t : List ℕ} {r most : ℕ} → Puts d 0 t most r o → length t ≤ length d → take r o ≡ t
front_text {d} {o} {t} p h = ap₂ take p.place p.text ∙ take_put d 0 t (omega arith)

-- two texts, the second behind the first, are in front of what was there
module _ (d o₁ o₂ l t : List ℕ) (a b : ℕ) (x : a ≡ 0 + length l) (y : o₁ ≡ put d 0 l) (z : b ≡ a + length t) (w : o₂ ≡ put o₁ a t) (room : length l + length t ≤ length d) where
  pub both_front : o₂ ≡ in_front (l ++ t) d
  both_front =
      w
      ∙ ap₂ (λ (o : List ℕ) (k : ℕ). put o k t) y x
      ∙ put_put d 0 l (omega arith) t
      ∙ (let e : 0 + length (l ++ t) ≡ length (l ++ t) = omega arith in ap (λ (k : ℕ). (l ++ t) ++ drop k d) e)

  pub both_length : b ≡ length (l ++ t)
  both_length = omega (arith, x, z, length-append l t)

-- what fills a buffer is no longer than it
pub few_filled : (room : ℕ) (xs : List ℕ) → length (unless_refused (list_refusal 0 room (length xs)) xs) ≤ room
unfolding list_refusal
few_filled room xs =
    elim (dec_lt room (length xs)) [
      | yes h ↦ rw (lt-ltb room (length xs) h) (omega arith)
      | no h ↦ rw (le-ltb room (length xs) (omega arith)) (omega arith)
    ]

place_free : holds 10 place_name ≡ false
unfolding holds
place_free = refl

said_file : (place : ℕ) (h : House) → place < 2 ^ 64 → file_says (file_of place h) ≡ in_file place (saying newest (written h))
unfolding file_says
said_file place h p =
    ap (λ (g : Got ℕ). then g λ place n rest. in_file place (saying newest rest)) (number_back place_name 0 (2 ^ 64 - 1) 0 place (written h) place_free (omega arith) (omega (arith, p)) p)

-- the file says what the saved text says, and the place
pub filed_again : (place : ℕ) (h : House) → place < 2 ^ 64 → SaidAgain h → FiledAgain place h
unfolding in_file
filed_again place h p s =
    record {
      lines = counted_of s.lines;
      is = said_file place h p ∙ ap (in_file place) s.is ∙ ap (λ (x : House). got (record { place = place; house = x }) (counted_of s.lines) []) s.means;
    }

-- ---- Reading back
abbrev first_line : List ℕ → Option (ℕ × ℕ)
first_line text = taken_by place_name (decimal_from 0 (2 ^ 64 - 1)) text 0

first_is : (text : List ℕ) (t : Option (ℕ × ℕ)) → t ≡ first_line text → file_says text ≡ then (got_by text 0 t) λ place n rest. in_file place (saying newest rest)
unfolding file_says
first_is text t e = ap (λ (g : Got ℕ). then g λ place n rest. in_file place (saying newest rest)) (sym (ap (got_by text 0) e ∙ taken_is place_name (decimal_from 0 (2 ^ 64 - 1)) text 0 0))

module _ (s : Tanks) (text : List ℕ) where
  -- by what the file says
  by_saying : (g : Got Filed) (r : Back) → file_says text ≡ g → r.number ≡ back_number g → r.line ≡ back_line g → r.place ≡ back_place g → meaning r.tanks ≡ back_house (meaning s) g → Sound r.tanks → ReadsBack s text r
  by_saying g r e a b c d h =
      record { number_is = a ∙ ap back_number (sym e); line_is = b ∙ ap back_line (sym e); place_is = c ∙ ap back_place (sym e); is = d ∙ ap (back_house (meaning s)) (sym e); sound = h }

  -- no place in the first line
  pub back_none : (r : Back) → Sound s → None ≡ first_line text → r ≡ record { number = 13; line = 1; place = 0; tanks = s } → ReadsBack s text r
  back_none r h e k = subst (ReadsBack s text) (sym k) (by_saying (bad 1) (record { number = 13; line = 1; place = 0; tanks = s }) (first_is text None e) refl refl refl refl h)

  module _ (place start : ℕ) (first : Some (place, start) ≡ first_line text) (q : Restored) (rest : List ℕ) (behind : rest ≡ drop start text) (back : Restores s rest q) where
    says : file_says text ≡ in_file place (saying newest rest)
    says = first_is text (Some (place, start)) first ∙ ap (λ (t : List ℕ). in_file place (saying newest t)) (sym behind)

    -- the saved text behind it is refused
    pub back_wrong : (r : Back) (n : ℕ) → 0 < q.number → n ≡ counted_of q.line → r ≡ record { number = 13; line = n; place = 0; tanks = q.tanks } → ReadsBack s text r
    unfolding in_file
    back_wrong r n h e k = subst (ReadsBack s text) (sym k) (by (saying newest rest) says back.number_is back.line_is back.is) where
      by : (g : Got Said) → file_says text ≡ in_file place g → q.number ≡ restore_number g → q.line ≡ restore_line g → meaning q.tanks ≡ restored (meaning s) g → ReadsBack s text (record { number = 13; line = n; place = 0; tanks = q.tanks })
      by (bad m) f a b d = by_saying (bad (counted_of m)) (record { number = 13; line = n; place = 0; tanks = q.tanks }) f refl (e ∙ ap counted_of b) refl d back.sound
      by (got x m t) f a b d = absurd (omega (arith, a, h))

    -- it is taken
    pub back_good : (r : Back) → q.number ≡ 0 → r ≡ record { number = 0; line = 0; place = place; tanks = q.tanks } → ReadsBack s text r
    unfolding in_file
    back_good r h k = subst (ReadsBack s text) (sym k) (by (saying newest rest) says back.number_is back.is) where
      by : (g : Got Said) → file_says text ≡ in_file place g → q.number ≡ restore_number g → meaning q.tanks ≡ restored (meaning s) g → ReadsBack s text (record { number = 0; line = 0; place = place; tanks = q.tanks })
      by (bad m) f a d = absurd (omega (arith, a, h))
      by (got x m t) f a d = by_saying (got (record { place = place; house = house_in x }) (counted_of m) t) (record { number = 0; line = 0; place = place; tanks = q.tanks }) f refl refl refl d back.sound
