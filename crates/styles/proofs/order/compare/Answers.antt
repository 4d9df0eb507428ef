-- The first field that differs decides; where none does, the identities are one.
use Rattle.std.proofs.Common.{◌≡◌, sym, ap, ◌∙◌, arith}
use Rattle.styles.specs.Order.{rank, stands}
use Rattle.styles.proofs.OrderLaws.{by_party, by_key, by_lamport, by_peer, of_less, of_more, identity_eq, same_self}
use Rattle.styles.proofs.order.compare.Goals as goal

pub returns-then-x-y : goal.returns-then-x-y
returns-then-x-y c = sym (of_less (by_party (omega arith)))

pub returns-then-y-x : goal.returns-then-y-x
returns-then-y-x c = sym (of_more (by_party (omega arith)))

pub returns-then-a-b : goal.returns-then-a-b
returns-then-a-b c = sym (of_less (by_key (omega arith) (omega arith)))

pub returns-then-b-a : goal.returns-then-b-a
returns-then-b-a c = sym (of_more (by_key (omega arith) (omega arith)))

pub returns-then-a-b-2 : goal.returns-then-a-b-2
returns-then-a-b-2 c = sym (of_less (by_lamport (omega arith) (omega arith) (omega arith)))

pub returns-then-b-a-2 : goal.returns-then-b-a-2
returns-then-b-a-2 c = sym (of_more (by_lamport (omega arith) (omega arith) (omega arith)))

pub returns-then-a-b-3 : goal.returns-then-a-b-3
returns-then-a-b-3 c = sym (of_less (by_peer (omega arith) (omega arith) (omega arith) (omega arith)))

pub returns-then-b-a-3 : goal.returns-then-b-a-3
returns-then-b-a-3 c =
    let one_party : rank c.args.b.party ≡ rank c.args.a.party = omega arith in
    sym (of_more (by_peer one_party (omega arith) (omega arith) (omega arith)))

pub returns : goal.returns
returns c =
    let one_party : rank c.args.a.party ≡ rank c.args.b.party = omega arith in
    sym (ap (stands _) (sym (identity_eq _ _ one_party (omega arith) (omega arith) (omega arith))) ∙ same_self _)
