-- What taking a text makes of what is kept, by what the text says; and which set is answered, whatever was read before.
use mathlib.Core.Path.{◌≡◌, refl, sym, ap, ap₂, ◌∙◌}
use mathlib.Core.Bool.{Bool, true, false, cond}
use mathlib.Core.List.{List, [], ◌∷◌, ◌++◌, map, foldl}
use Prim.Native.Nat.{ℕ, zero, suc, ◌+◌, ◌-◌, ◌≤◌, ◌<◌}
use native.Mathlib.Omega.{arith}
use native.Mathlib.Numerals.{add-one}
use lib.Dec.{ltb}
use lib.Seq.{take-take, get_or-take}
use lib.ListN.{length, get_or, take}
use borrow.Author.Tests.{lt-ltb, le-ltb, le-leb}
use Rattle.text_lines.specs.Lines.{Got, bad, got}
use Rattle.tanks.specs.declared.Setting.{Setting}
use Rattle.settings_text.specs.declared.Kept.{Kept}
use Rattle.settings_text.specs.declared.Reading.{Reading}
use Rattle.settings_text.specs.declared.Set.{Set}
use Rattle.settings_text.specs.declared.Taken.{Taken}
use Rattle.settings_text.specs.Text.{reading_of, settings_of, no_settings}
use Rattle.settings_text.specs.Kept.{taken_of, taken_good, kept_with, last_number, no_sets, is_kept, asked_of, kept_of, read_after, all_read, kept_after}

-- the places of an empty set, as a copy of an element has them
abbrev empty_set : Set
empty_set = record { settings = [] }

-- the first three of four
pub first_three : (sets : List Set) → length sets ≡ 4 → take 3 sets ≡ get_or sets 0 empty_set ∷ get_or sets 1 empty_set ∷ get_or sets 2 empty_set ∷ []
first_three [] e = absurd (omega arith)
first_three (a ∷ []) e = absurd (omega arith)
first_three (a ∷ b ∷ []) e = absurd (omega arith)
first_three (a ∷ b ∷ c ∷ sets) e = refl

module _ (k : Kept) where
  pub taken_wrong : (g : Got (List Setting)) (r : Reading) → r ≡ reading_of g → 0 < r.number → record { number = 12; line = r.line; kept = k } ≡ taken_of k g
  unfolding reading_of taken_of
  taken_wrong (bad n) r e h = rw e
  taken_wrong (got st n x) r e h = let z : r.number ≡ 0 = ap (λ (q : Reading). q.number) e in absurd (omega arith)

  good : (g : Got (List Setting)) (r : Reading) → r ≡ reading_of g → r.number ≤ 0 → taken_of k g ≡ taken_good k r.settings
  unfolding reading_of taken_of
  good (bad n) r e h = let z : r.number ≡ 12 = ap (λ (q : Reading). q.number) e in absurd (omega arith)
  good (got st n x) r e h = rw e

  pub taken_full : (g : Got (List Setting)) (r : Reading) → r ≡ reading_of g → r.number ≤ 0 → last_number ≤ k.number → record { number = 12; line = 0; kept = k } ≡ taken_of k g
  taken_full g r e h l = sym (good g r e h ∙ rw (le-ltb k.number last_number l))

  pub taken_kept : (g : Got (List Setting)) (r : Reading) → r ≡ reading_of g → r.number ≤ 0 → k.number < last_number → length k.sets ≡ 4
      → record {
        number = 0;
        line = 0;
        kept = record {
          number = k.number + 1;
          sets = record { settings = r.settings } ∷ get_or k.sets 0 empty_set ∷ get_or k.sets 1 empty_set ∷ get_or k.sets 2 empty_set ∷ [];
        };
      } ≡ taken_of k g
  taken_kept g r e h l four =
      sym (
      good g r e h
      ∙ rw (lt-ltb k.number last_number l)
      (rw (first_three k.sets four)))

-- ---- Whatever was read: what is kept is the last four, by their numbers
take_three : (l : List Set) → take 3 (take 4 l) ≡ take 3 l
take_three l = take-take 3 4 l (omega arith)

-- one text more
pub kept_on : (h : List (List Setting)) (g : Got (List Setting)) → (taken_of (kept_of h) g).kept ≡ kept_of (read_after h g)
unfolding taken_of
kept_on h (bad n) = refl
kept_on h (got st n x) = by (ltb (length h) last_number) where
  more : kept_with (kept_of h) st ≡ kept_of (st ∷ h)
  more =
      ap₂ (λ (k : ℕ) (l : List Set). record { number = k; sets = record { settings = st } ∷ l }) (add-one (length h)) (take_three (map (λ st. record { settings = st }) h ++ no_sets))

  by : (b : Bool) → (cond {A = Taken} b (record { number = 0; line = 0; kept = kept_with (kept_of h) st }) (record { number = 12; line = 0; kept = kept_of h })).kept ≡ kept_of (cond b (st ∷ h) h)
  by true = more
  by false = refl

-- texts one after another
kept_fold : (texts : List (List ℕ)) (h : List (List Setting)) → foldl (λ k text. (taken_of k (settings_of text)).kept) (kept_of h) texts ≡ kept_of (foldl (λ h text. read_after h (settings_of text)) h texts)
kept_fold [] h = refl
kept_fold (text ∷ texts) h = rw (kept_on h (settings_of text)) (kept_fold texts (read_after h (settings_of text)))

pub kept_all : (texts : List (List ℕ)) → kept_after texts ≡ kept_of (all_read texts)
unfolding kept_after all_read
kept_all texts = kept_fold texts []

set_at : (h : List (List Setting)) (i : ℕ) → i < length h → (get_or (map (λ st. record { settings = st }) h ++ no_sets) i empty_set).settings ≡ get_or h i []
set_at [] i l = absurd (omega arith)
set_at (st ∷ h) zero l = refl
set_at (st ∷ h) (suc i) l = set_at h i (omega arith)

-- of the last four the set with that number is answered: with m sets read, number n is the one behind which m - n came
pub asked_kept : (h : List (List Setting)) (n : ℕ) → 1 ≤ n → n ≤ length h → length h < n + 4 → asked_of (kept_of h) n ≡ record { found = true; settings = get_or h (length h - n) [] }
unfolding asked_of
asked_kept h n a b d =
    let all : List Set = map (λ st. record { settings = st }) h ++ no_sets in
    rw (le-leb 1 n a)
    (rw (le-leb n (length h) b)
    (rw (lt-ltb (length h - n) 4 (omega arith))
    (ap (λ (st : List Setting). record { found = true; settings = st })
    (ap (λ (s : Set). s.settings) (get_or-take 4 all (length h - n) empty_set (omega arith)) ∙ set_at h (length h - n) (omega arith)))))

-- any other number has none
pub asked_none : (h : List (List Setting)) (n : ℕ) → is_kept (length h) n ≡ false → asked_of (kept_of h) n ≡ record { found = false; settings = no_settings }
unfolding asked_of
asked_none h n e = rw e
