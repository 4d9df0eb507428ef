-- The number of the line.
use mathlib.Core.Path.{ap}
use Rattle.answers.proofs.Laws.{adds_as}
use Rattle.answers.specs.Replies.{line_says}
use Rattle.text.specs.Bytes.{bytes}
use Rattle.clerk.proofs.put_bad.Goals as goal

pub returns : goal.returns
returns c = adds_as (ap (line_says (bytes "malformed=")) c.line_number.ensures) c.say.ensures
