-- Laws of the expand types and of the flag byte: what the definitions of `specs/` have to do with one another. Assumes nothing.
use mathlib.Core.Path.{◌≡◌, refl, ap, ◌∙◌}
use mathlib.Core.Bool.{Bool, true, false, cond}
use mathlib.Core.List.{List}
use Prim.Native.Nat.{ℕ}
use lib.Bits.{bit_or}
use lib.Dec.{eqb}
use lib.Pointwise.{pointwise}
use Rattle.std.specs.Cmp.Lexicographic.{same_text, other_text}
use Rattle.text.specs.Bytes.{starts_of, same_of}
use Rattle.richtext.specs.Types.{grows_before, grows_after, reversed, word, named}
use Rattle.richtext.specs.Flags.{bit, expands_before, expands_after, type_of, new_byte, deleted_byte}
use Rattle.richtext.specs.declared.ExpandType.{ExpandType}
use Rattle.richtext.specs.declared.ExpandType.TheVariants.{Before, After, Both, None}
use Rattle.std.specs.Prelude.{Option}
use Rattle.laws.proofs.Cases.{cond_cases}
use Rattle.text.proofs.Prefix.{same_refl, same_true, same_false}

-- reverse twice is the identity
pub reversed_reversed : (t : ExpandType) → reversed (reversed t) ≡ t
reversed_reversed Before = refl
reversed_reversed After = refl
reversed_reversed Both = refl
reversed_reversed None = refl

-- Words

-- what `==` of two slices says of their texts
pub same_said : (s t : List ℕ) (b : Bool) → b ≡ pointwise eqb s t → same_of s t ≡ b
same_said s t true e = rw (same_text s t e) (same_refl t)
same_said s t false e = same_false s t (other_text s t e)

-- each type's word names it
pub named_word : (t : ExpandType) → named (word t) ≡ Option.Some t
unfolding starts_of same_of
named_word Before = refl
named_word After = refl
named_word Both = refl
named_word None = refl

-- and no other bytes name it
pub word_named : (s : List ℕ) (t : ExpandType) → named s ≡ Option.Some t → s ≡ word t
word_named s t = step Before (step After (step Both (step None (λ k. cc))))
  where
    step : (w : ExpandType) {r : Option ExpandType} → (r ≡ Option.Some t → s ≡ word t) → cond (same_of s (word w)) (Option.Some w) r ≡ Option.Some t → s ≡ word t
    step w f = cond_cases (λ r. r ≡ Option.Some t → s ≡ word t) (same_of s (word w)) (λ e k. let q : w ≡ t = cc in same_true s (word w) e ∙ ap word q) (λ e. f)

-- Bytes

-- the type of a byte by its two bits
pub type_by : (byte : ℕ) (b a : Bool) → expands_before byte ≡ b → expands_after byte ≡ a → cond b (cond a Both Before) (cond a After None) ≡ type_of byte
type_by byte b a e f = rw (e, f)

grows_by : (b a : Bool) → let t : ExpandType = cond b (cond a Both Before) (cond a After None) in (grows_before t ≡ b) × (grows_after t ≡ a)
grows_by true true = (refl, refl)
grows_by true false = (refl, refl)
grows_by false true = (refl, refl)
grows_by false false = (refl, refl)

-- the type says of each side what the byte's bit says
pub grows_type : (byte : ℕ) → (grows_before (type_of byte) ≡ expands_before byte) × (grows_after (type_of byte) ≡ expands_after byte)
grows_type byte = grows_by (expands_before byte) (expands_after byte)

-- a new byte means the type that it was made of, and is alive
pub type_new : (t : ExpandType) → type_of (new_byte t) ≡ t
type_new Before = refl
type_new After = refl
type_new Both = refl
type_new None = refl

pub alive_new : (t : ExpandType) → bit 128 (new_byte t) ≡ true
alive_new Before = refl
alive_new After = refl
alive_new Both = refl
alive_new None = refl

-- a new byte is put together from the alive bit and a bit for each side on which the style grows
pub new_bits : (t : ExpandType) (b a : Bool) → grows_before t ≡ b → grows_after t ≡ a
    → cond a (bit_or (cond b (bit_or 128 2) 128) 4) (cond b (bit_or 128 2) 128) ≡ new_byte t
new_bits Before b a e f = rw (← e, ← f)
new_bits After b a e f = rw (← e, ← f)
new_bits Both b a e f = rw (← e, ← f)
new_bits None b a e f = rw (← e, ← f)

-- to_delete of a new byte is the new byte of the reversed type
pub deleted_new : (t : ExpandType) → deleted_byte (new_byte t) ≡ new_byte (reversed t)
deleted_new t = rw (type_new t)

-- to_delete twice, of any byte, is the new byte of its type
pub deleted_deleted : (byte : ℕ) → deleted_byte (deleted_byte byte) ≡ new_byte (type_of byte)
deleted_deleted byte = rw (deleted_new (reversed (type_of byte)), reversed_reversed (type_of byte))
