-- The keys of the strips, and the letter of each.
use Rattle.std.specs.Prelude.{Bool, cond, ◌&&◌, not, List, [], ◌∷◌, ◌++◌, map, ℕ, suc, ◌+◌, leb, ltb, eqb, get_or}
use Rattle.text.specs.Bytes.{holds}
use Rattle.key_names.specs.Names.{Named, is_named, key_text}

-- the keys without one of them
unfoldable pub without : ℕ → List ℕ → List ℕ
without k [] = []
without k (x ∷ xs) = cond (eqb x k) xs (x ∷ without k xs)

-- the keys in the order in which they are drawn: `hold` in front where it is a key and one of them
unfoldable pub held_first : ℕ → List ℕ → List ℕ
unfolding without
held_first hold keys = cond (leb hold 65535 && holds hold keys) (hold ∷ without hold keys) keys

-- a letter of the alphabet
abbrev pub is_letter : ℕ → Bool
is_letter c = leb 97 c && leb c 122

-- the first byte of what a key is called
abbrev pub initial_of : List Named → ℕ → ℕ
initial_of names key = get_or (key_text names key) 0 0

-- a byte that may be the key's letter: the first of its name, where that is one of the alphabet and no key before has it
abbrev pub is_free : List Named → List ℕ → ℕ → Bool
is_free names before key = is_named names key && (is_letter (initial_of names key) && not (holds (initial_of names key) before))

-- the letter of the key at place i, behind those of the keys before it: a dot where there is no key; the first of its name where that is
-- free; else the digit of its place, counted from 1
abbrev pub letter_of : List Named → List ℕ → ℕ → ℕ → ℕ
letter_of names before i key = cond (ltb 65535 key) 46 (cond (is_free names before key) (initial_of names key) (49 + i))

-- the letters of keys, from place i on
unfoldable pub letters_from : List Named → List ℕ → ℕ → List ℕ → List ℕ
letters_from names before i [] = []
letters_from names before i (k ∷ ks) = letter_of names before i k ∷ letters_from names (before ++ (letter_of names before i k ∷ [])) (suc i) ks

-- the letters of all keys
unfoldable pub letters_of : List Named → List ℕ → List ℕ
unfolding letters_from
letters_of names keys = letters_from names [] 0 keys

-- a key as a strip takes it: a place that has none has 65535, and a dot as its letter
abbrev pub strip_key : ℕ → ℕ
strip_key k = cond (ltb k 65536) k 65535

-- all of them
abbrev pub strip_keys : List ℕ → List ℕ
strip_keys keys = map strip_key keys
