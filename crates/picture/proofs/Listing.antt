-- The list of a tank's marked stretches, at the front of 1,536 numbers: there is always room for it.
use Prim.Native.Nat.{ℕ, ◌≤◌}
use mathlib.Core.Bool.{Bool, cond}
use mathlib.Core.List.{List}
use mathlib.Core.Path.{◌≡◌, sym, ap, ◌∙◌}
use native.Mathlib.Nat.{le_trans}
use native.Mathlib.Omega.{arith}
use borrow.Author.Tests.{le-ltb}
use lib.ListN.{length, take, drop}
use lib.Seq.{take_at}
use Rattle.lists.specs.declared.Listed.{Listed}
use Rattle.lists.specs.Lists.{whole_list, whole_number, list_refusal, unless_refused, filled_beside}
use Rattle.lists.proofs.Most.{list_most}
use Rattle.runs.specs.Stretches.{in_front}
use Rattle.tank.specs.declared.Tank.{Tank}
use Rattle.tank.specs.State.{view, Sound}
use Rattle.tank.specs.Rules.{carried}
use Rattle.tank.proofs.Unique.{marks_carried, table_length}

module _ {t : Tank} (s : Sound t) (entry exit : List ℕ) (r : Listed) (room : length entry ≡ 1536)
    (told : r ≡ filled_beside (whole_number (length entry) (view t)) (whole_list (view t)))
    (filled : exit ≡ in_front (unless_refused (whole_number (length entry) (view t)) (whole_list (view t))) entry) where
  few : length (whole_list (view t)) ≤ 1536
  unfolding view
  few = le_trans (list_most s.formed.laid 1 0 t.length (omega arith)) (let h = s.within in omega arith)

  none : whole_number (length entry) (view t) ≡ 0
  unfolding list_refusal
  none = ap (λ (b : Bool). cond b 11 0) (le-ltb (length entry) (length (whole_list (view t))) (omega (arith, few, room)))

  count_is : r.count ≡ length (whole_list (view t))
  count_is = ap (λ (l : Listed). l.count) told ∙ ap (λ (n : ℕ). (filled_beside n (whole_list (view t))).count) none

  front_is : exit ≡ in_front (whole_list (view t)) entry
  front_is = filled ∙ ap (λ (n : ℕ). in_front (unless_refused n (whole_list (view t))) entry) none

  pub listed_is : take r.count exit ≡ whole_list (view t)
  listed_is = ap (take r.count) front_is ∙ take_at (whole_list (view t)) (drop (length (whole_list (view t))) entry) r.count (sym count_is)

-- how many marks a tank has
pub marks_are : {t : Tank} → Sound t → length (carried (view t)) ≡ t.marks
marks_are {t} s = ap length (marks_carried s.formed) ∙ table_length s.formed.laid
