use Prim.Native.Nat.{ℕ, ◌+◌, ◌-◌, ◌*◌, ◌≤◌, ◌<◌, ◌^◌}
use mathlib.Core.Path.{◌≡◌, refl, sym, ap, subst, ◌∙◌}
use mathlib.Core.Bool.{Bool, true, false, cond}
use mathlib.Core.List.{List}
use native.Mathlib.Omega.{arith}
use borrow.Author.Rules.{rules}
use lib.Dec.{eqb}
use lib.ListN.{length, get_or, take, drop, replicate, get_or-replicate}
use Rattle.styles.specs.declared.Mark.{Mark}
use Rattle.styles.specs.Marks.{key_is, blank}
use Rattle.styles.specs.Bits.{MaskOf}
use Rattle.styles.proofs.Built.{as_bit, mask_of}
use Rattle.styles.proofs.MaskLaws.{mask_is, mask_end, mask_turn, mask_fits}
use Rattle.windows.proofs.masks.Invariants.{Masked}
use Rattle.windows.proofs.masks.Goals as goal

masked-none : (table : List Mark) (n : ℕ) (keys : List ℕ) → Masked table n keys (replicate 8 0) n
masked-none table n keys = record { each = λ j h. get_or-replicate 8 j 0 0 h ∙ sym (mask_end (key_is (get_or keys j 0)) table n) }

bit_is : (b : Bool) → cond b 1 0 ≡ as_bit b
bit_is true = refl
bit_is false = refl

module _ {table : List Mark} {n : ℕ} {keys out : List ℕ} {i : ℕ} (m : Masked table n keys out i) (more : 0 < i) (within : i ≤ n) (few : n ≤ 64) (long : length table ≡ 64) where
  masked-fits : (j : ℕ) → j < 8 → get_or out j 0 < 2 ^ 63
  masked-fits j h = omega (arith, m.each j h, mask_fits (key_is (get_or keys j 0)) table n i blank more within few (omega arith))

  masked-more : {next : List ℕ} → ((j : ℕ) → j < 8 → get_or next j 0 ≡ get_or out j 0 * 2 + cond (eqb (get_or table (i - 1) blank).key (get_or keys j 0)) 1 0) → Masked table n keys next (i - 1)
  masked-more e =
      record {
        each = λ j h.
            e j h
            ∙ (λ u. m.each j h u * 2 + bit_is (key_is (get_or keys j 0) (get_or table (i - 1) blank)) u)
            ∙ mask_turn (key_is (get_or keys j 0)) table n i blank more within few (omega arith);
      }

pub loop-i-init : goal.loop-i-init
loop-i-init c = masked-none c.args.table c.args.n c.args.keys

pub with_bits-next-requires : goal.with_bits-next-requires
with_bits-next-requires c = masked-fits c.loop-i.invariant (omega arith) (omega arith) c.requires (search rules)

pub loop-i-preserved : goal.loop-i-preserved
loop-i-preserved c = masked-more c.loop-i.invariant (omega arith) (omega arith) c.requires (search rules) c.with_bits-next.ensures

pub returns : goal.returns
returns c =
    let a = c.args in
    let e : c.loop-i.i ≡ 0 = omega (arith, c.loop-i-test.false) in
    λ j h. subst (MaskOf (key_is (get_or a.keys j 0)) (take a.n a.table)) (sym (c.loop-i.invariant.each j h ∙ ap (λ (x : ℕ). mask_of (key_is (get_or a.keys j 0)) (drop x (take a.n a.table))) e)) (mask_is (key_is (get_or a.keys j 0)) (take a.n a.table))
