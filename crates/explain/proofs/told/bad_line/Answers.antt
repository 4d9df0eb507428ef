-- What is kept is the line.
use mathlib.Core.Path.{sym, ap}
use mathlib.Core.List.{List}
use Prim.Native.Nat.{ℕ, ◌≤◌}
use native.Mathlib.Omega.{arith}
use lib.ListN.{length}
use lib.Seq.{length-take-le}
use Rattle.script.specs.declared.Line.{Line}
use Rattle.script.specs.Lines.{Keeps}
use Rattle.script.proofs.CutLaws.{kept_front}
use Rattle.script.proofs.PutLaws.{puts_as}
use Rattle.explain.specs.Told.{bad_at}
use borrow.Author.Rules.{rules}
use Rattle.explain.proofs.told.bad_line.Goals as goal

inside : {l : Line} {n : ℕ} → Keeps l n → n ≤ length l.text
inside k = omega (arith, k.count, k.sized)

pub slice_bounds-t-end : goal.slice_bounds-t-end
slice_bounds-t-end c = inside c.kept-n.ensures

pub slice_bounds-bad_text-end : goal.slice_bounds-bad_text-end
slice_bounds-bad_text-end c = sym (length-take-le _ _ (inside c.kept-n.ensures))

pub bad_text-requires : goal.bad_text-requires
bad_text-requires c = (omega (arith, length-take-le _ c.args.line.text (inside c.kept-n.ensures), c.kept-n.ensures.count), search rules)

pub returns : goal.returns
returns c = puts_as (ap (λ (t : List ℕ). bad_at c.args.number c.args.call c.args.some t) (kept_front c.kept-n.ensures)) c.bad_text.ensures
