-- The marks that a tank carries, gathered from its positions, are those of all its sets together; and a mark clashes at some
-- position where it clashes with these.
use Prim.Native.Nat.{ℕ, zero, suc, ◌+◌, ◌/◌, ◌%◌, ◌≤◌, ◌<◌}
use mathlib.Core.Path.{◌≡◌, refl, sym, ap, ◌∙◌}
use mathlib.Core.Bool.{Bool, true, false, ◌&&◌, ◌||◌, or_comm, and-or_distrib_right}
use mathlib.Core.List.{List, [], ◌∷◌}
use native.Mathlib.Omega.{arith}
use lib.Bits.{bit_or}
use borrow.Author.Tests.{le-leb}
use Rattle.styles.specs.declared.Identity.{Identity}
use Rattle.styles.specs.declared.Mark.{Mark}
use Rattle.styles.specs.Order.{id_of, stands, same_id}
use Rattle.styles.specs.Marks.{Sorted, member}
use Rattle.styles.specs.Bits.{keep_bit, pick}
use Rattle.styles.proofs.OrderLaws.{is_same_of, same_eq}
use Rattle.styles.proofs.PickLaws.{above_pick, not_member}
use Rattle.styles.proofs.SetLaws.{member_either}
use Rattle.styles.proofs.UnionLaws.{pick_or, pick_none}
use Rattle.runs.specs.Positions.{any_at}
use Rattle.runs.specs.Runs.{Run, total, set_at, Canon}
use Rattle.runs.specs.Gather.{gather}
use Rattle.runs.proofs.Laws.{at_in, at_last}
use Rattle.runs.proofs.ScanLaws.{any_ext}
use Rattle.styles.proofs.Digits.{digits_ext, or_digit}
use Rattle.tank.specs.Rules.{gathered, clash}
use Rattle.tank.proofs.RoomLaws.{no_clash}

-- a set that is there adds nothing
or_again : (s x : ℕ) → bit_or s (bit_or s x) ≡ bit_or s x
or_again s x = digits_ext (bit_or s (bit_or s x)) (bit_or s x) (λ i. omega (arith, or_digit s (bit_or s x) i, or_digit s x i))

pub gathered_agree : (f g : ℕ → List Mark) (n : ℕ) → ((p : ℕ) → p < n → f p ≡ g p) → gathered f n ≡ gathered g n
unfolding gathered
gathered_agree f g zero h = refl
gathered_agree f g (suc n) h = rw (h n (omega arith), gathered_agree f g n (λ p k. h p (omega arith)))

module _ (ms : List Mark) (sorted : Sorted ms) where
  -- positions with one set add that set
  flat : (f : ℕ → List Mark) (s x n j : ℕ) → gathered f n ≡ pick ms x → ((p : ℕ) → n ≤ p → p < n + suc j → f p ≡ pick ms s)
      → gathered f (n + suc j) ≡ pick ms (bit_or s x)
  unfolding gathered
  flat f s x n zero e h =
      let k : n + 1 ≡ suc n = omega arith in
      rw k (rw (h n (omega arith) (omega arith), e) (sym (pick_or ms s x sorted)))
  flat f s x n (suc j) e h =
      let k : n + suc (suc j) ≡ suc (n + suc j) = omega arith in
      rw k
      (rw (h (n + suc j) (omega arith) (omega arith), flat f s x n j e (λ p a b. h p a (omega arith)))
      (sym (pick_or ms s (bit_or s x) sorted) ∙ ap (pick ms) (or_again s x)))

  one_more : (r : Run) (rs : List Run) (l : ℕ) → r.len ≡ l → Canon (r ∷ rs) → gathered (λ p. pick ms (set_at rs p)) (total rs) ≡ pick ms (gather rs)
      → gathered (λ p. pick ms (set_at (r ∷ rs) p)) (total rs + l) ≡ pick ms (bit_or r.set (gather rs))
  unfolding Canon total
  one_more r rs zero e c h = absurd (let p = c.0 in omega arith)
  one_more r rs (suc j) e c h =
      flat (λ p. pick ms (set_at (r ∷ rs) p)) r.set (gather rs) (total rs) j
      (gathered_agree _ _ (total rs) (λ p k. ap (pick ms) (at_in r rs p k)) ∙ h)
      (λ p a b. ap (pick ms) (at_last r rs p a (omega arith)))

  pub gathered_is : (rs : List Run) → Canon rs → gathered (λ p. pick ms (set_at rs p)) (total rs) ≡ pick ms (gather rs)
  unfolding Canon total gathered gather
  gathered_is [] c = sym (pick_none ms)
  gathered_is (r ∷ rs) c = one_more r rs r.len refl c (gathered_is rs c.2)

-- ---- Clashes
-- an identity is gathered where some position carries it
gathered_any : (i : Identity) (f : ℕ → List Mark) (n : ℕ) → member i (gathered f n) ≡ any_at (λ p. member i (f p)) 0 n
unfolding gathered member any_at
gathered_any i f zero = refl
gathered_any i f (suc n) =
    rw (le-leb 0 n (omega arith))
    (member_either i (f n) (gathered f n) ∙ ap (◌||◌ (member i (f n))) (gathered_any i f n) ∙ or_comm (member i (f n)) (any_at (λ p. member i (f p)) 0 n))

-- what holds at some position, and beside that
any_and : (test : ℕ → Bool) (b : Bool) (n : ℕ) → any_at (λ p. test p && b) 0 n ≡ (any_at test 0 n && b)
unfolding any_at
any_and test b zero = refl
any_and test b (suc n) = rw (le-leb 0 n (omega arith)) (ap (λ x. x || (test n && b)) (any_and test b n) ∙ sym (and-or_distrib_right (any_at test 0 n) (test n) b))

module _ (m : Mark) where
  -- of a table, one mark and what is picked of those behind it
  clash_keep : (b : ℕ) (x : Mark) (t xs : List Mark) (a : Bool) → same_id (id_of m) (id_of x) ≡ a → (a ≡ true → member (id_of m) t ≡ false)
      → clash m t ≡ (member (id_of m) t && clash m xs) → clash m (keep_bit b x t) ≡ (member (id_of m) (keep_bit b x t) && clash m (x ∷ xs))
  unfolding member clash
  clash_keep zero x t xs true e none h = rw (none refl) (no_clash m t (none refl))
  clash_keep zero x t xs false e none h = rw e h
  clash_keep (suc b) x t xs true e none h = rw e
  clash_keep (suc b) x t xs false e none h = rw e h

  -- a set of a table clashes where it has the identity and the table clashes
  clash_pick : (ms : List Mark) (s : ℕ) → Sorted ms → clash m (pick ms s) ≡ (member (id_of m) (pick ms s) && clash m ms)
  unfolding Sorted pick clash member
  clash_pick [] s h = refl
  clash_pick (x ∷ xs) s h =
      clash_keep (s % 2) x (pick xs (s / 2)) xs (same_id (id_of m) (id_of x)) refl
      (λ e. rw (same_eq (id_of m) (id_of x) (is_same_of (stands (id_of m) (id_of x)) e)) (not_member (id_of x) (pick xs (s / 2)) (above_pick (id_of x) xs (s / 2) h.0)))
      (clash_pick xs (s / 2) h.1)

  -- some position's set clashes where all sets together do
  pub any_clash : (ms : List Mark) (g : ℕ → ℕ) (n all : ℕ) → Sorted ms → gathered (λ p. pick ms (g p)) n ≡ pick ms all
      → any_at (λ p. clash m (pick ms (g p))) 0 n ≡ clash m (pick ms all)
  any_clash ms g n all sorted e =
      any_ext _ _ 0 n (λ p _ _. clash_pick ms (g p) sorted)
      ∙ any_and (λ p. member (id_of m) (pick ms (g p))) (clash m ms) n
      ∙ ap (λ b. b && clash m ms) (sym (gathered_any (id_of m) (λ p. pick ms (g p)) n) ∙ ap (member (id_of m)) e)
      ∙ sym (clash_pick ms all sorted)
