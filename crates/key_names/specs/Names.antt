-- Names of keys, as a text of lines `name=key`: what a name is, what a text says, how names are held, and what a key is called.
use Rattle.std.specs.Prelude.{◌≡◌, Bool, true, false, cond, ◌&&◌, ◌||◌, List, [], ◌∷◌, ◌++◌, ℕ, zero, suc, ◌+◌, ◌-◌, ◌*◌, ◌≤◌, ◌<◌, leb, eqb, length, get_or, take, drop, Option, Some, None}
use Rattle.text.specs.Bytes.{bytes, up_to, holds, same_of}
use Rattle.text.specs.Number.{decimal_text}
use Rattle.text_lines.specs.Lines.{Got, bad, got, then, ended, line, decimal_from, word_text}
use Rattle.key_names.specs.declared.Names.{Names}
use Rattle.key_names.specs.declared.NamesRead.{NamesRead}

-- a key and a name of it
pub record Named : Type 0 where
  pub key : ℕ
  pub name : List ℕ

-- ---- A name
-- a byte that a name may have: a to z, 0 to 9, `_` and `-`
abbrev pub in_name : ℕ → Bool
in_name c = (leb 97 c && leb c 122) || ((leb 48 c && leb c 57) || (eqb c 95 || eqb c 45))

-- all bytes are such
unfoldable pub all_in_name : List ℕ → Bool
all_in_name [] = true
all_in_name (c ∷ cs) = in_name c && all_in_name cs

-- a name has 1 to 24 of them
unfoldable pub is_name : List ℕ → Bool
is_name s = (leb 1 (length s) && leb (length s) 24) && all_in_name s

-- ---- What a text says
-- a name and a number, where both are good: a key is at most 65535
abbrev pub keyed : List ℕ → Option ℕ → Option Named
keyed name None = None
keyed name (Some k) = cond (is_name name) (Some (record { key = k; name = name })) None

-- what a line says, without its newline: a name, `=`, and a decimal without leading zeros
unfoldable pub name_line : List ℕ → Option Named
name_line l = cond (holds 61 l) (keyed (up_to 61 l) (decimal_from 0 65535 (drop (length (up_to 61 l) + 1) l))) None

-- names in front of those that were read
abbrev pub ahead : List Named → Got (List Named) → Got (List Named)
ahead front (bad n) = bad n
ahead front (got ns n text) = got (front ++ ns) n text

-- the names of a text of at most k lines behind n lines, in order, or its first wrong line, counted from 1; line k + 1 is wrong
unfoldable pub name_lines : ℕ → ℕ → List ℕ → Got (List Named)
name_lines zero n text = ended [] n text
name_lines (suc k) n text = cond (eqb (length text) 0) (got [] n []) (then (line [] name_line n text) λ a n text. ahead (a ∷ []) (name_lines k n text))

-- what a text says: at most 64 lines
unfoldable pub names_in : List ℕ → Got (List Named)
unfolding name_lines
names_in text = name_lines 64 0 text

-- the names that were read, and none where a line is wrong
abbrev pub names_said : Got (List Named) → List Named
names_said (bad n) = []
names_said (got ns n text) = ns

-- the line that is wrong, and 0 where none is
abbrev pub wrong_line : Got (List Named) → ℕ
wrong_line (bad n) = n
wrong_line (got ns n text) = 0

-- ---- What is done with names
-- what a key is called: by its first name, else `key ` and its number
unfoldable pub key_text : List Named → ℕ → List ℕ
key_text [] key = bytes "key " ++ decimal_text key
key_text (a ∷ bs) key = cond (eqb a.key key) a.name (key_text bs key)

-- a key has a name
unfoldable pub is_named : List Named → ℕ → Bool
is_named [] key = false
is_named (a ∷ bs) key = eqb a.key key || is_named bs key

-- the key that a word names, the first where it stands twice, and 65536 where it names none
unfoldable pub key_named : List Named → List ℕ → ℕ
key_named [] word = 65536
key_named (a ∷ bs) word = cond (same_of a.name word) a.key (key_named bs word)

-- ---- How names are held
-- n things from number i on
abbrev pub listed : {A : Type 0} → (ℕ → A) → ℕ → ℕ → List A
listed f i zero = []
listed f i (suc n) = f i ∷ listed f (suc i) n

-- key and name number i: the name's bytes stand in its place of 24, and are so many
abbrev pub held_in : List ℕ → List ℕ → List ℕ → ℕ → Named
held_in keys lens texts i = record { key = get_or keys i 0; name = take (get_or lens i 0) (drop (i * 24) texts) }

-- the names that are held
unfoldable pub names_of : Names → List Named
names_of ns = listed (held_in ns.keys ns.lens ns.texts) 0 ns.count

-- one name more
abbrev pub with_name : List Named → ℕ → List ℕ → List Named
with_name ns key name = ns ++ (record { key = key; name = name } ∷ [])

-- a key and a name as a line may say them
pub record Good (a : Named) : Type 0 where
  pub key_most : a.key ≤ 65535
  pub good_name : is_name a.name ≡ true

-- of all names
unfoldable pub AllGood : List Named → Type 0
AllGood [] = Unit {0}
AllGood (a ∷ bs) = Good a × AllGood bs

-- what is needed of names that are held: at most 64, each in its place, and all good
pub record Formed (ns : Names) : Type 0 where
  pub few : ns.count ≤ 64
  pub keys_64 : length ns.keys ≡ 64
  pub lens_64 : length ns.lens ≡ 64
  pub texts_1536 : length ns.texts ≡ 1536
  pub short : (i : ℕ) → get_or ns.lens i 0 ≤ 24
  pub good : AllGood (names_of ns)

-- what reading a text hands back: the names that it says, or its first wrong line and no names
pub record ReadsNames (text : List ℕ) (r : NamesRead) : Type 0 where
  pub formed : Formed r.names
  pub line : r.line ≡ wrong_line (names_in text)
  pub names : names_of r.names ≡ names_said (names_in text)

-- ---- Names as they are written
-- the line of a name
abbrev pub name_text : Named → List ℕ
name_text a = word_text [] (a.name ++ bytes "=" ++ decimal_text a.key)

-- the lines of all
unfoldable pub names_text : List Named → List ℕ
names_text [] = []
names_text (a ∷ bs) = name_text a ++ names_text bs

-- ---- What the code hands back of a line
-- a key, how long its name is, and the place behind its line
abbrev pub placed : ℕ → Option Named → Option (ℕ × ℕ × ℕ)
placed next None = None
placed next (Some a) = Some (a.key, length a.name, next)

-- the line from a place of a text on
unfoldable pub line_from : List ℕ → ℕ → Option (ℕ × ℕ × ℕ)
line_from text from =
    cond (holds 10 (drop from text)) (placed (from + length (up_to 10 (drop from text)) + 1) (name_line (up_to 10 (drop from text)))) None

-- the place of a key among names: their number where it has none
unfoldable pub place_of : List Named → ℕ → ℕ
place_of [] key = 0
place_of (a ∷ bs) key = cond (eqb a.key key) 0 (suc (place_of bs key))

-- ---- What the loop over lines is told of the next one, with so many names read
-- what the lines from there on say
abbrev pub said_next : List ℕ → ℕ → ℕ → Option (ℕ × ℕ × ℕ) → Got (List Named)
said_next text from count None = bad (count + 1)
said_next text from count (Some (key, len, next)) =
    ahead (record { key = key; name = take len (drop from text) } ∷ []) (name_lines (64 - (count + 1)) (count + 1) (drop next text))

-- a name that was read, and the place behind its line
pub record LineFits (text : List ℕ) (from count len next : ℕ) : Type 0 where
  pub room : count < 64
  pub good : is_name (take len (drop from text)) ≡ true
  pub inside : from + len ≤ length text
  pub later : from < next
  pub within : next ≤ length text

-- of a line that is wrong nothing is known
abbrev pub FitsNext : List ℕ → ℕ → ℕ → Option (ℕ × ℕ × ℕ) → Type 0
FitsNext text from count None = Unit {0}
FitsNext text from count (Some (key, len, next)) = LineFits text from count len next

-- the next line: what the text says from there on, and that its name is good and stands inside
pub record NextLine (text : List ℕ) (from count : ℕ) (r : Option (ℕ × ℕ × ℕ)) : Type 0 where
  pub is : name_lines (64 - count) count (drop from text) ≡ said_next text from count r
  pub fits : FitsNext text from count r
