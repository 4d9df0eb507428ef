use Rattle.std.proofs.Common.{◌≡◌, ℕ, suc, ◌+◌, ◌-◌, ◌<◌, refl, ap, ◌∙◌, subst, arith}
use Rattle.std.proofs.Math.Nat.{sub-zero}
use lib.Count.{count_trailing_zeros}
use Rattle.styles.specs.Bits.{without_bit, NthAt}
use Rattle.styles.proofs.CountLaws.{lowest_less, lowest_fewer, without_le}
use Rattle.styles.proofs.RankLaws.{nth_lowest, nth_turn}
use Rattle.styles.proofs.bits.nth_bit.Goals as goal

pub returns-then-held-j : goal.returns-then-held-j
returns-then-held-j c = record { found = λ h. absurd (omega arith); past = λ h. refl }

pub loop-k-init : goal.loop-k-init
loop-k-init c = (omega arith, omega arith, λ i h. rw sub-zero at h)

pub loop-k-preserved : goal.loop-k-preserved
loop-k-preserved c =
    let l = c.loop-k in
    let z : count_trailing_zeros 64 l.s < 64 = lowest_less 64 64 l.s (omega arith) (omega arith) (omega arith) in
    let e : c.without_bit-s.result ≡ without_bit (count_trailing_zeros 64 l.s) l.s =
    c.without_bit-s.ensures ∙ ap (λ (x : ℕ). without_bit x l.s) c.lowest.ensures.0
    in
    let f : suc (c.args.j - (l._k + 1)) ≡ c.args.j - l._k = omega arith in
    rw e (
      omega (arith, lowest_fewer 64 l.s z),
      omega (arith, without_le (count_trailing_zeros 64 l.s) l.s),
      λ i h. l.invariant.2 i (subst (λ (x : ℕ). NthAt l.s x i) f (nth_turn 64 l.s (c.args.j - (l._k + 1)) i z h)),
    )

pub returns : goal.returns
returns c =
    let l = c.loop-k in
    let e : ◌≡◌ {A = ℕ} 0 (c.args.j - l._k) = omega arith in
    let z : count_trailing_zeros 64 l.s < 64 = lowest_less 64 64 l.s (omega arith) (omega arith) (omega arith) in
    rw c.lowest-2.ensures.0 (record {
      found = λ h. l.invariant.2 _ (subst (λ (x : ℕ). NthAt l.s x (count_trailing_zeros 64 l.s)) e (nth_lowest 64 l.s z));
      past = λ h. absurd (omega arith);
    })
