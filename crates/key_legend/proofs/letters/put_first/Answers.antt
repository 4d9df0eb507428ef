-- Where `hold` is one of the keys it is moved.
use Rattle.std.proofs.Common.{sym, ◌∙◌}
use Rattle.key_legend.proofs.Drawn.{any_holds, first_over_lem, first_moved, first_none}
use Rattle.key_legend.proofs.letters.put_first.Goals as goal
use Rattle.key_legend.proofs.letters.put_first.Goals.{else-hold-le65535-via-then-hold-le65535+else-contains, else-hold-le65535-via-else-hold-le65535}

pub move_first-requires : goal.move_first-requires
move_first-requires c = let a = c.args in sym (c.contains.ensures.value ∙ any_holds a.hold a.keys.now) ∙ c.if-contains.true

pub returns-then-contains : goal.returns-then-contains
returns-then-contains c =
    let a = c.args in
    c.move_first.ensures ∙ first_moved a.hold a.keys.now c.if-hold-le65535.true (sym (c.contains.ensures.value ∙ any_holds a.hold a.keys.now) ∙ c.if-contains.true)

pub returns-else-hold-le65535 : goal.returns-else-hold-le65535
returns-else-hold-le65535 c =
    let a = c.args in
    elim c.else-hold-le65535.branch [
      | else-hold-le65535-via-then-hold-le65535+else-contains w ↦ first_none a.hold a.keys.now w.if-hold-le65535.true (sym (w.contains.ensures.value ∙ any_holds a.hold a.keys.now) ∙ w.if-contains.false)
      | else-hold-le65535-via-else-hold-le65535 w ↦ first_over_lem a.hold a.keys.now w.if-hold-le65535.false
    ]
