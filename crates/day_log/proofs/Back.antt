-- The edit of a group, as the rules have it.
use mathlib.Core.Path.{◌≡◌, sym, subst}
use Prim.Native.Nat.{ℕ}
use Rattle.std.specs.Prelude.{Result, Ok, Err}
use Rattle.refusal.specs.declared.Refusal.{Refusal}
use Rattle.refusal.specs.Numbers.{number_of}
use Rattle.refusal.specs.Answers.{number_in}
use Rattle.tank.specs.Rules.{Edit}
use Rattle.tanks.specs.declared.Edit as code
use Rattle.tanks.specs.declared.Shown.{Shown}
use Rattle.tanks.specs.declared.Tanks.{Tanks}
use Rattle.tanks.specs.House.{Call as Calling}
use Rattle.tanks.specs.Promises.{CalledAt, AppliedAt, edit_of}

pub edit_called : (s next : Tanks) (k : Calling) (e : code.Edit) (r : Result Shown Refusal) → edit_of e ≡ k.edit → AppliedAt s k.tank (edit_of e) next r → CalledAt s k.tank k.edit (number_in r) next
edit_called s next k e (Ok shown) is done = subst (λ (x : Edit). CalledAt s k.tank x 0 next) is done.done.called
edit_called s next k e (Err refusal) is done = subst (λ (x : Edit). CalledAt s k.tank x (number_of refusal) next) is done.done.called

-- a refused one, by the number that is told
pub edit_refused : (s next : Tanks) (k : Calling) (e : code.Edit) (refusal : Refusal) (number : ℕ) → number ≡ number_of refusal → edit_of e ≡ k.edit → AppliedAt s k.tank (edit_of e) next (Err refusal)
    → CalledAt s k.tank k.edit number next
edit_refused s next k e refusal number told is done = subst (λ (n : ℕ). CalledAt s k.tank k.edit n next) (sym told) (edit_called s next k e (Err refusal) is done)
