-- Byte strings: those of a word, what stands in front of a byte, and comparing two.
use Rattle.std.specs.Prelude.{List, [], ◌∷◌, Bool, true, false, cond, ◌&&◌, ◌||◌, ℕ, zero, suc, eqb, length}
use Prim.Native.Char.{code}
use Prim.Native.String.{String, len, char_at}

-- k bytes of a text, from place i on
abbrev pub bytes_from : ℕ → ℕ → String → List ℕ
bytes_from zero i s = []
bytes_from (suc k) i s = code (char_at s i) ∷ bytes_from k (suc i) s

-- all bytes of a text in ASCII, where a character is a byte
abbrev pub bytes : String → List ℕ
bytes s = bytes_from (len s) 0 s

-- the bytes in front of the first b: all of them where there is none
unfoldable pub up_to : ℕ → List ℕ → List ℕ
up_to b [] = []
up_to b (x ∷ xs) = cond (eqb x b) [] (x ∷ up_to b xs)

-- b stands among them
unfoldable pub holds : ℕ → List ℕ → Bool
holds b [] = false
holds b (x ∷ xs) = eqb x b || holds b xs

-- a text starts with another
unfoldable pub starts_of : List ℕ → List ℕ → Bool
starts_of s [] = true
starts_of [] (c ∷ p) = false
starts_of (x ∷ s) (c ∷ p) = eqb x c && starts_of s p

-- two texts are the same: as long, and the one starts with the other
unfoldable pub same_of : List ℕ → List ℕ → Bool
unfolding starts_of
same_of s t = eqb (length s) (length t) && starts_of s t
