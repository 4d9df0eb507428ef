-- `windows_in` meets its contract: the windows by the party's bits and the masks of the keys are those over what it is shown.
use mathlib.Core.Path.{◌∙◌}
use Rattle.tanks.proofs.LookLaws.{can_walk, few_in}
use Rattle.ask.proofs.WindowLaws.{windows_there}
use Rattle.ask.proofs.windowed.windows_in.Goals as goal

pub own_bits-own-requires : goal.own_bits-own-requires
own_bits-own-requires c = let p = c.requires in (p.inside, few_in p)

pub masks-keyed-requires : goal.masks-keyed-requires
masks-keyed-requires c = few_in c.requires

pub value_bits-nulls-requires : goal.value_bits-nulls-requires
value_bits-nulls-requires c = few_in c.requires

pub over_pool-requires : goal.over_pool-requires
over_pool-requires c = can_walk c.requires

pub returns : goal.returns
returns c =
    let a = c.args in
    c.over_pool.ensures ∙ windows_there c.requires a.who c.own_bits-own.ensures c.value_bits-nulls.ensures a.keys c.masks-keyed.result c.masks-keyed.ensures a.first a.k _
