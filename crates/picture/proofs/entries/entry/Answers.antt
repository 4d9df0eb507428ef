-- Its parts, or nothing.
use mathlib.Core.List.{[], ◌++◌, ◌∷◌}
use Rattle.answers.proofs.Laws.{and_then, no_piece}
use Rattle.key_names.specs.Names.{names_of, key_text}
use Rattle.picture.specs.Elements.{colour_says}
use Rattle.picture.specs.Picture.{patch_says, caption_says, entry_says}
use Rattle.picture.proofs.Choices.{when_true, when_false}
use borrow.Author.Tests.{lt-ltb, le-ltb}
use lib.Dec.{ltb}
use Rattle.text.specs.Bytes.{bytes}
use Rattle.picture.proofs.entries.entry.Goals as goal

pub returns-then-key-gt65535 : goal.returns-then-key-gt65535
unfolding entry_says
returns-then-key-gt65535 c =
    let a = c.args in
    when_true [] (patch_says a.i ++ (colour_says a.i ++ (caption_says a.i ++ key_text (names_of a.names) a.key ∷ bytes "</text>\n" ∷ []))) (ltb 65535 a.key) (lt-ltb 65535 a.key c.if-key-gt65535.true) (no_piece _ _)

pub returns : goal.returns
unfolding entry_says
returns c =
    let a = c.args in
    when_false [] (patch_says a.i ++ (colour_says a.i ++ (caption_says a.i ++ key_text (names_of a.names) a.key ∷ bytes "</text>\n" ∷ []))) (ltb 65535 a.key) (le-ltb 65535 a.key c.if-key-gt65535.false) (and_then c.patch-a.ensures (and_then c.colour-b.ensures (and_then c.caption-c.ensures (and_then c.key_name-d.ensures c.say.ensures))))
