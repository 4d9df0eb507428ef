use mathlib.Core.Path.{sym, ◌∙◌}
use native.Mathlib.Numerals.{add-one}
use native.Mathlib.Omega.{arith}
use borrow.Author.Rules.{rules}
use Rattle.config.proofs.MapLaws.{place_pass, place_stop, place_over}
use Rattle.config.proofs.StyleConfigMap.place.Goals as goal

pub is_named-requires : goal.is_named-requires
is_named-requires c = c.requires.tidy c.loop-i.i (omega arith)

pub returns-then-is_named : goal.returns-then-is_named
returns-then-is_named c =
    let named = sym c.is_named.ensures ∙ c.if-is_named.true in
    omega (arith, place_stop c.args.self.now c.requires c.args.key.now c.loop-i.i (search rules) named)

pub loop-i-preserved : goal.loop-i-preserved
loop-i-preserved c =
    let other = sym c.is_named.ensures ∙ c.if-is_named.false in
    rw add-one (omega (arith, place_pass c.args.self.now c.requires c.args.key.now c.loop-i.i (search rules) other))

pub returns : goal.returns
returns c = omega (arith, place_over c.args.self.now c.requires c.args.key.now c.loop-i.i (search rules))
