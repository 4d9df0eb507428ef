-- `needed` meets its contract: the party is shown the marks of its bits.
use mathlib.Core.Path.{ap, ◌∙◌}
use lib.ListN.{length}
use Rattle.tanks.proofs.LookLaws.{few_in}
use Rattle.tanks.proofs.Closing.{mask_list, can_list}
use Rattle.tanks.proofs.stretches.needed.Goals as goal

pub own_bits-own-requires : goal.own_bits-own-requires
own_bits-own-requires c = let p = c.requires.0 in (p.inside, few_in p)

pub count_in-requires : goal.count_in-requires
count_in-requires c = can_list c.requires.0 c.args.who c.own_bits-own.ensures c.requires.1

pub returns : goal.returns
returns c =
    let a = c.args in
    c.count_in.ensures ∙ ap length (mask_list c.requires.0 a.who c.own_bits-own.ensures a.least a.from a.to)
