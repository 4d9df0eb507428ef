-- By whether a body follows.
use mathlib.Core.Path.{◌≡◌, sym, ap, ◌∙◌}
use Prim.Native.Nat.{ℕ}
use borrow.Author.Tests.{eq-eqb, ne_eqb}
use Rattle.script.specs.declared.Call.{Call}
use Rattle.script.specs.declared.Event.{Event}
use Rattle.script.specs.declared.Reader.{Reader}
use Rattle.script.specs.declared.Taken.{Taken}
use Rattle.script.specs.Bodies.{body_of, resting, end_taken}
use Rattle.script.proofs.bodies.called.Goals as goal

module _ (r : Reader) (c : Call) (at n : ℕ) (size : n ≡ body_of c) where
  no_body : n ≡ 0 → ◌≡◌ {A = Taken} (record { inlet = resting r; event = Event.Call; call = c; size = 0; at = at }) (end_taken Event.Call r c at)
  unfolding end_taken
  no_body h = rw (eq-eqb (body_of c) 0 (sym size ∙ h))

  some-body : (n ≡ 0 → ⊥) → ◌≡◌ {A = Taken} (record { inlet = record { reader = r; call = c; have = 0; left = n }; event = Event.Nothing; call = c; size = 0; at = at }) (end_taken Event.Call r c at)
  unfolding end_taken
  some-body h =
      ap {B = Taken} (λ (k : ℕ). record { inlet = record { reader = r; call = c; have = 0; left = k }; event = Event.Nothing; call = c; size = 0; at = at }) size
      ∙ rw (ne_eqb (body_of c) 0 (λ e. h (size ∙ e)))

pub returns-then-left-eq0 : goal.returns-then-left-eq0
returns-then-left-eq0 c = c.in_lines_with.ensures ∙ no_body _ _ _ _ c.body_size-left.ensures c.if-left-eq0.true

pub returns : goal.returns
returns c = c.in_body.ensures ∙ some-body _ _ _ _ c.body_size-left.ensures c.if-left-eq0.false
