-- What the masks of a tank's table say of the bits of its positions is what the question for the value says of them.
use Prim.Native.Nat.{ℕ, suc, ◌+◌, ◌*◌, ◌≤◌, ◌<◌, ◌^◌}
use mathlib.Core.Path.{◌≡◌, refl, sym, ap, ap₂, ◌∙◌, fun_ext}
use mathlib.Core.Bool.{Bool, true, false, cond, not, ◌&&◌, ◌||◌}
use mathlib.Core.List.{List, [], ◌∷◌}
use native.Mathlib.Omega.{arith}
use native.Mathlib.Decide.{dec_lt}
use lib.Bits.{bit_and, and_le_r}
use lib.ListN.{length, get_or}
use lib.Pow.{pow_mono}
use Rattle.std.specs.Prelude.{Option, None, Some}
use borrow.Author.Tests.{le-leb, lt-leb}
use Rattle.styles.specs.declared.Mark.{Mark}
use Rattle.styles.specs.declared.Value.{Value}
use Rattle.styles.specs.declared.Value.TheVariants.{Null, Flag, Whole, Decimal}
use Rattle.styles.specs.Bits.{pick, MaskOf}
use Rattle.styles.specs.Marks.{Sorted, key_is, value_is, has_key, later, better, winner, shown_by, blank}
use Rattle.styles.specs.Values.{is_null, shows_as}
use Rattle.styles.proofs.Built.{mask_of}
use Rattle.styles.proofs.Unique.{mask_only}
use Rattle.styles.proofs.MaskLaws.{has_key_bits, shows_bits_lem, mask_less}
use Rattle.runs.specs.Positions.{any_at}
use Rattle.runs.specs.Scan.{meets, shows}
use Rattle.questions.specs.declared.Shown.{Shown}
use Rattle.questions.specs.Questions.{shown_of, position_refusal}
use Rattle.tank.specs.Rules.{View}
use Rattle.windows.specs.Windows.{is_value, shows_at, first_in, windows, list_from, shows_bits, first_over, over_window}
use Rattle.windows.proofs.FirstLaws.{seek_within}
use Rattle.windows.proofs.WalkLaws.{none_shown}

-- ---- of a set of marks
-- there is a winner
won : Option Mark → Bool
won None = false
won (Some m) = true

won_better : (m : Mark) (w : Option Mark) → won (better m w) ≡ true
unfolding won
won_better m None = refl
won_better m (Some x) = go (later m x)
  where
    go : (b : Bool) → won (cond b (Some x) (Some m)) ≡ true
    go true = refl
    go false = refl

has_won : (key : ℕ) (ms : List Mark) → has_key key ms ≡ won (winner key ms)
unfolding has_key winner won
has_won key [] = refl
has_won key (m ∷ ms) = go (key_is key m) (has_won key ms)
  where
    go : (b : Bool) → has_key key ms ≡ won (winner key ms) → (b || has_key key ms) ≡ won (cond b (better m (winner key ms)) (winner key ms))
    go true e = sym (won_better m (winner key ms))
    go false e = e

-- what shows as null is null
as_null : (w : Value) → shows_as w Null ≡ is_null w
as_null Null = refl
as_null (Flag b) = refl
as_null (Whole b) = refl
as_null (Decimal b) = refl

value_shown_lem : (w : Option Mark) → is_value (shown_of 0 w) ≡ (won w && not (shown_by Null w))
unfolding is_value won
value_shown_lem None = refl
value_shown_lem (Some m) = go m.value (is_null m.value) ∙ ap not (sym (as_null m.value))
  where
    go : (w : Value) (b : Bool) → is_value (cond b Shown.Nothing (Shown.Shows w)) ≡ not b
    go w true = refl
    go w false = refl

-- ---- of a table
module _ (ms : List Mark) (sorted : Sorted ms) (few : length ms ≤ 64) (key : ℕ) {keyed nulls : ℕ} (k : MaskOf (key_is key) ms keyed) (z : MaskOf (value_is Null) ms nulls) where
  key_small : (s : ℕ) → bit_and s (mask_of (key_is key) ms) < 2 ^ 64
  key_small s =
      omega (
        arith,
        and_le_r s (mask_of (key_is key) ms),
        mask_less (key_is key) ms,
        pow_mono {i = length ms} {j = 64} few,
      )

  -- the masks of a set
  pub bits_shown : (s : ℕ) → shows_bits keyed nulls s ≡ is_value (shown_of 0 (winner key (pick ms s)))
  bits_shown s =
      ap₂ (λ (a b : Bool). a && not b)
      (ap (λ (x : ℕ). meets x s) (mask_only _ _ keyed k) ∙ sym (has_key_bits ms s key blank) ∙ has_won key (pick ms s))
      ((λ i. shows (mask_only _ _ keyed k i) (mask_only _ _ nulls z i) s) ∙ shows_bits_lem ms s key Null blank 64 sorted (key_small s))
      ∙ sym (value_shown_lem (winner key (pick ms s)))

-- ---- of positions with bits of it, and none past the length
module _ (v : View) (ms : List Mark) (bits : ℕ → ℕ) (sorted : Sorted ms) (few : length ms ≤ 64) (is : (p : ℕ) → pick ms (bits p) ≡ v.at p) (past : (p : ℕ) → v.length ≤ p → bits p ≡ 0)
    {nulls : ℕ} (z : MaskOf (value_is Null) ms nulls) where
  -- the position's value
  pub shown_at_lem : (key : ℕ) {keyed : ℕ} → MaskOf (key_is key) ms keyed → (p : ℕ) → shows_bits keyed nulls (bits p) ≡ shows_at v key p
  unfolding position_refusal is_value
  shown_at_lem key {keyed} k p =
      elim (dec_lt p v.length) [
        | yes h ↦
            bits_shown ms sorted few key k z (bits p)
            ∙ ap (λ (xs : List Mark). is_value (shown_of 0 (winner key xs))) (is p)
            ∙ sym (ap (λ (n : ℕ). is_value (shown_of n (winner key (v.at p)))) (ap (λ (b : Bool). cond b 4 0) (lt-leb v.length p h)))
        | no h ↦
            ap (shows_bits keyed nulls) (past p (omega arith)) ∙ none_shown keyed nulls
            ∙ sym (ap (λ (n : ℕ). is_value (shown_of n (winner key (v.at p)))) (ap (λ (b : Bool). cond b 4 0) (le-leb v.length p (omega arith))))
      ]

  -- so the windows by the bits are those over the positions
  module _ (keys keyed : List ℕ) (ks : (j : ℕ) → j < 8 → MaskOf (key_is (get_or keys j 0)) ms (get_or keyed j 0)) where
    first_shown : (from to : ℕ) → first_over keyed nulls bits from to ≡ first_in v keys from to
    first_shown from to =
        seek_within _ _ 0 8
        (λ j h. ap (λ (test : ℕ → Bool). any_at test from to) (fun_ext (shown_at_lem (get_or keys j 0) (ks j h))))

    pub windows_shown : (start k n : ℕ) → list_from (over_window keyed nulls bits start k) 0 n ≡ windows v keys start k n
    windows_shown start k n = ap (λ (g : ℕ → ℕ). list_from g 0 n) (fun_ext (λ i. first_shown (start + i * k) (start + suc i * k)))
