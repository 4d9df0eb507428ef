-- The count of bytes, and the pieces that they make.
use mathlib.Core.Path.{ap}
use Rattle.text.specs.Bytes.{bytes}
use Rattle.answers.proofs.Laws.{and_then, adds_as}
use Rattle.answers.specs.Replies.{line_says, bytes_say}
use Rattle.answers.proofs.texts.put_text.Goals as goal

pub returns : goal.returns
unfolding bytes_say
returns c = and_then (adds_as (ap (line_says (bytes "bytes=")) c.wide.ensures) c.say-k.ensures) c.put_pieces.ensures
