-- There is such a tank, so that its length is not refused.
use Rattle.std.proofs.Common.{sym, ◌∙◌, rules}
use borrow.Author.Tests.{lt-leb}
use Rattle.timing.proofs.length.Goals as goal

pub returns-in-Refused : goal.returns-in-Refused
returns-in-Refused c =
    let e = sym c.in-Refused.is ∙ c.length-c.ensures in
    let f = rw (lt-leb 8 c.args.tank (search rules)) at e in cc

pub returns-in-Counts : goal.returns-in-Counts
returns-in-Counts c =
    let e = sym c.in-Counts.is ∙ c.length-c.ensures in
    let f = rw (lt-leb 8 c.args.tank (search rules)) at e in cc
