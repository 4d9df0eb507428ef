-- Each public function of this crate has one answer: any two results that meet its statement are equal.
-- Where the statement is an equation `r ≡ ..` that is the library's `◌∙⁻¹◌`; the functions that say it otherwise follow it.
use Rattle.std.proofs.Common.{◌≡◌, ℕ, Bool, List, length, sym, ◌∙◌, arith}
use mathlib.Core.Path.{◌∙⁻¹◌}
use native.Mathlib.Decide.{dec_lt}
use lib.Count.{ones}
use Rattle.styles.specs.declared.Mark.{Mark}
use Rattle.styles.specs.Bits.{NthBit, Squeezed, MaskOf}
use Rattle.styles.proofs.RankLaws.{one_place, nth_there}
use Rattle.styles.proofs.Built.{mask_of}
use Rattle.styles.proofs.Digits.{below_pow, same_bits}
use Rattle.styles.proofs.MaskLaws.{mask_is}

-- `nth_bit`
pub one_nth_bit : (set j r s : ℕ) → NthBit set j r → NthBit set j s → r ≡ s
one_nth_bit set j r s h k =
    elim (dec_lt j (ones set)) [
      | yes e ↦ one_place set j r s (h.found e) (k.found e)
      | no e ↦ h.past (omega arith) ∙⁻¹ k.past (omega arith)
    ]

-- a set that `runs::sets::squeeze_sets` leaves
pub one_squeezed : (mask s r u : ℕ) → Squeezed mask s r → Squeezed mask s u → r ≡ u
one_squeezed mask s r u h k =
    same_bits (ones mask) r u h.past k.past
    (λ j l.
    let n = nth_there mask mask j (below_pow mask) l in
    h.bits j n.0 n.1 ∙ sym (k.bits j n.0 n.1))

-- `key_bits`, `value_bits`
pub one_mask : (f : Mark → Bool) (ms : List Mark) (r u : ℕ) → MaskOf f ms r → MaskOf f ms u → r ≡ u
one_mask f ms r u h k = same_bits (length ms) r u h.past k.past (λ i l. h.bits i l ∙ sym (k.bits i l))

pub mask_only : (f : Mark → Bool) (ms : List Mark) (r : ℕ) → MaskOf f ms r → r ≡ mask_of f ms
mask_only f ms r h = one_mask f ms r (mask_of f ms) h (mask_is f ms)
