-- `has_key` meets its contract: of the key's bits those of the party's marks, looked for over the range.
use mathlib.Core.Path.{◌∙◌}
use Rattle.runs.specs.Scan.{passes}
use Rattle.runs.proofs.ScanLaws.{any_ext}
use Rattle.tanks.proofs.LookLaws.{can_walk, few_in}
use Rattle.tanks.proofs.RangeLaws.{within_in, key_seen}
use Rattle.tanks.proofs.look.has_key.Goals as goal

pub own_bits-own-requires : goal.own_bits-own-requires
own_bits-own-requires c = let p = c.requires.0 in (p.inside, few_in p)

pub key_bits-keyed-requires : goal.key_bits-keyed-requires
key_bits-keyed-requires c = few_in c.requires.0

pub some_in-requires : goal.some_in-requires
some_in-requires c = let p = c.requires in (can_walk p.0, within_in p.0 p.1 p.2)

pub returns : goal.returns
unfolding passes
returns c =
    let a = c.args in
    c.some_in.ensures ∙ any_ext _ _ a.start a.end (λ p g h. key_seen c.requires.0 a.who c.own_bits-own.ensures a.key p c.key_bits-keyed.ensures)
