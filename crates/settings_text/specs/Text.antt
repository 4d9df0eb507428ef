-- Settings as a text: `version=1`, then share and limit of tank 0 to tank 7, a line each. What the text of eight pairs is, what a text says, and
-- which of its lines is the first that is wrong.
use Rattle.std.specs.Prelude.{◌≡◌, Bool, false, cond, List, [], ◌∷◌, ◌++◌, ℕ, zero, suc, ◌+◌, ◌≤◌, length, drop, replicate, Result, Ok, Err}
use Rattle.text.specs.Bytes.{bytes}
use Rattle.text_lines.specs.Lines.{Got, bad, got, then, ended, number_line, number_text}
use Rattle.tanks.specs.declared.Setting.{Setting}
use Rattle.tanks.specs.Settings.{no_setting}
use Rattle.settings_text.specs.declared.Pairs.{Pairs}
use Rattle.settings_text.specs.declared.Reading.{Reading}

-- ---- The text of settings
-- how the line of tank t's share begins: its digit is byte 48 + t
abbrev pub share_name : ℕ → List ℕ
share_name t = bytes "share" ++ (48 + t) ∷ bytes "="

-- and that of its limit
abbrev pub limit_name : ℕ → List ℕ
limit_name t = bytes "limit" ++ (48 + t) ∷ bytes "="

-- the first line
abbrev pub version_name : List ℕ
version_name = bytes "version="

-- the two lines of a pair
abbrev pub pair_text : ℕ → Setting → List ℕ
pair_text t s = number_text (share_name t) s.share ++ number_text (limit_name t) s.limit

-- the lines of the pairs from tank t on
unfoldable pub pairs_text : ℕ → List Setting → List ℕ
pairs_text t [] = []
pairs_text t (s ∷ st) = pair_text t s ++ pairs_text (suc t) st

-- the text of eight pairs
unfoldable pub settings_text : List Setting → List ℕ
unfolding pairs_text
settings_text st = number_text version_name 1 ++ pairs_text 0 st

-- ---- What a text says
-- the least that a limit may be: 1, or, where a limit under its share is wrong too, the share
abbrev pub least_limit : Bool → ℕ → ℕ
least_limit ordered share = cond ordered share 1

-- the two lines of tank t's pair, each 1 to 512
unfoldable pub pair_lines : Bool → ℕ → ℕ → List ℕ → Got Setting
pair_lines ordered t n text =
    then (number_line (share_name t) 1 512 n text) λ s n text.
    then (number_line (limit_name t) (least_limit ordered s) 512 n text) λ l n text.
    got (record { share = s; limit = l }) n text

-- what was read, and more in front of it
abbrev pub ahead : {A : Type 0} → List A → Got (List A) → Got (List A)
ahead xs (bad n) = bad n
ahead xs (got ys n text) = got (xs ++ ys) n text

-- the lines of k pairs from tank t on
unfoldable pub pairs_lines : Bool → ℕ → ℕ → ℕ → List ℕ → Got (List Setting)
unfolding pair_lines
pairs_lines ordered t zero n text = got [] n text
pairs_lines ordered t (suc k) n text = then (pair_lines ordered t n text) λ s n text. ahead (s ∷ []) (pairs_lines ordered (suc t) k n text)

-- the eight pairs of a text of 17 lines, or the first wrong line, 18 for text left over
unfoldable pub settings_of : List ℕ → Got (List Setting)
unfolding pairs_lines
settings_of text =
    then (number_line version_name 1 1 0 text) λ v n text.
    then (pairs_lines false 0 8 n text) λ st n text.
    ended st n text

-- each number of the pairs is 1 to 512
pub record InRange (s : Setting) : Type 0 where
  pub share_least : 1 ≤ s.share
  pub share_most : s.share ≤ 512
  pub limit_least : 1 ≤ s.limit
  pub limit_most : s.limit ≤ 512

-- of all pairs
unfoldable pub AllInRange : List Setting → Type 0
AllInRange [] = Unit {0}
AllInRange (s ∷ st) = InRange s × AllInRange st

-- ---- What the code hands back
-- no pair, eight times
abbrev pub no_settings : List Setting
no_settings = replicate 8 no_setting

-- refusal 12 with the line, or the pairs
unfoldable pub reading_of : Got (List Setting) → Reading
reading_of (bad n) = record { number = 12; line = n; settings = no_settings }
reading_of (got st n text) = record { number = 0; line = 0; settings = st }

-- the two lines of a pair, as the code says them
abbrev pub got_pair : List ℕ → ℕ → Result (ℕ × ℕ × ℕ) ℕ → Got Setting
got_pair text n (Err line) = bad line
got_pair text n (Ok (s, l, at)) = got (record { share = s; limit = l }) (n + 2) (drop at text)

-- where a pair's lines end
abbrev pub behind_pair : Result (ℕ × ℕ × ℕ) ℕ → ℕ
behind_pair (Err line) = 0
behind_pair (Ok (s, l, at)) = at

-- the line that is wrong, and 1 where none is
abbrev pub wrong_in : Result (ℕ × ℕ × ℕ) ℕ → ℕ
wrong_in (Err line) = line
wrong_in (Ok (s, l, at)) = 1

-- a pair read from a place of a text on; lines count from 1
pub record ReadsPair (ordered : Bool) (text : List ℕ) (from t n : ℕ) (r : Result (ℕ × ℕ × ℕ) ℕ) : Type 0 where
  pub is : got_pair text n r ≡ pair_lines ordered t n (drop from text)
  pub inside : behind_pair r ≤ length text
  pub counted : 1 ≤ wrong_in r

-- the lines of eight pairs, as the code says them: line 0 where all are good
abbrev pub got_pairs : List ℕ → ℕ → Pairs → ℕ → Got (List Setting)
got_pairs text n r zero = got r.settings n (drop r.at text)
got_pairs text n r (suc k) = bad (suc k)

-- eight pairs read from a place of a text on
pub record ReadsPairs (ordered : Bool) (text : List ℕ) (from n : ℕ) (r : Pairs) : Type 0 where
  pub is : got_pairs text (n + 16) r r.line ≡ pairs_lines ordered 0 8 n (drop from text)
  pub inside : r.at ≤ length text
