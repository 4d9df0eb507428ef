use Rattle.std.proofs.Common.{◌∙◌, sym}
use Rattle.key_legend.proofs.Drawn.{any_holds, letter_free, letter_not, letter_taken}
use Rattle.key_legend.proofs.letters.letter_or.Goals as goal
use Rattle.key_legend.proofs.letters.letter_or.Goals.{else-is_ascii_lowercase-via-then-is_ascii_lowercase+else-not-contains, else-is_ascii_lowercase-via-else-is_ascii_lowercase}

pub returns-then-not-contains : goal.returns-then-not-contains
returns-then-not-contains c =
    let a = c.args in
    letter_free a.c a.before.now a.i (sym c.is_ascii_lowercase.ensures.value ∙ c.if-is_ascii_lowercase.true) (sym (c.contains.ensures.value ∙ any_holds a.c a.before.now) ∙ c.if-not-contains.true)

pub returns-else-is_ascii_lowercase : goal.returns-else-is_ascii_lowercase
returns-else-is_ascii_lowercase c =
    let a = c.args in
    c.digit.ensures
    ∙ elim c.else-is_ascii_lowercase.branch [
      | else-is_ascii_lowercase-via-then-is_ascii_lowercase+else-not-contains w ↦
          letter_taken a.c a.before.now a.i (sym c.is_ascii_lowercase.ensures.value ∙ w.if-is_ascii_lowercase.true) (sym (w.contains.ensures.value ∙ any_holds a.c a.before.now) ∙ w.if-not-contains.false)
      | else-is_ascii_lowercase-via-else-is_ascii_lowercase w ↦ letter_not a.c a.before.now a.i (sym c.is_ascii_lowercase.ensures.value ∙ w.if-is_ascii_lowercase.false)
    ]
