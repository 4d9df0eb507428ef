-- `StyleConfigMap::get` meets its contract: a long name is refused, any other answered with its style. Assumes nothing.
use Rattle.config.specs.Table.{style_for}
use Rattle.config.specs.Meaning.{configured}
use Rattle.config.proofs.AnswerLaws.{asked_long, asked_found}
use Rattle.config.proofs.StyleConfigMap.get.Goals as goal

pub returns-then-key-gt-MAX_NAME : goal.returns-then-key-gt-MAX_NAME
returns-then-key-gt-MAX_NAME c = asked_long c.args.key.now (style_for c.args.key.now (configured c.args.self.now)) c.if-key-gt-MAX_NAME.true

pub returns : goal.returns
returns c = asked_found c.args.key.now (style_for c.args.key.now (configured c.args.self.now)) c.if-key-gt-MAX_NAME.false _ c.style_for.ensures
