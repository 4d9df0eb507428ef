-- One more than the place of the highest bit.
use Rattle.std.proofs.Common.{◌≡◌, ℕ, ◌+◌, ◌-◌, ◌^◌, ◌≤◌, subst, arith}
use Rattle.styles.proofs.bits.width.Goals as goal

pub returns : goal.returns
returns c =
    let h = c.highest in
    let s = c.args.set in
    let e : h.result ≡ h.result + 1 - 1 = omega arith in
    (omega arith, h.ensures.2, λ l. subst (λ (x : ℕ). 2 ^ x ≤ s) e h.ensures.1)
