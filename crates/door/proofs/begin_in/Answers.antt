-- A text that is none, settings with which nothing opens, a text that does not fit, or one that is written.
use mathlib.Core.Path.{refl, ◌∙◌}
use lib.ListN.{length}
use Rattle.tanks.specs.Pool.{meaning}
use Rattle.settings_text.specs.Text.{settings_of}
use Rattle.door.specs.Door.{right}
use mathlib.Core.List.{[]}
use Rattle.door.proofs.Laws.{wrong_writes, settings_wrong, not_opened, opened, too_long, fits, done_writes}
use Rattle.door.proofs.begin_in.Goals as goal

pub returns-then-r-gt0 : goal.returns-then-r-gt0
returns-then-r-gt0 c =
    let a = c.args in
    wrong_writes 12 _ a.next.now a.next.now c.wrong.ensures (settings_wrong (settings_of a.settings.now) (length a.next.now) c.read-r.ensures c.if-r-gt0.true) refl

pub returns-then-o-gt0 : goal.returns-then-o-gt0
returns-then-o-gt0 c =
    let a = c.args in
    wrong_writes 2 0 a.next.now a.next.now c.wrong-then-o-gt0.ensures
    (not_opened (settings_of a.settings.now) (length a.next.now) c.read-r.ensures c.if-r-gt0.false c.open-o.ensures.number_is c.if-o-gt0.true)
    refl

pub write-l-requires : goal.write-l-requires
write-l-requires c = c.open-o.ensures.sound

pub returns-then-l-gt0 : goal.returns-then-l-gt0
returns-then-l-gt0 c =
    let a = c.args in
    let o = c.open-o in
    let s = o.result.tanks in
    let w = c.write-l.ensures in
    let long = too_long (meaning s) a.next.now w.value w.out_after (right (meaning s) []) c.if-l-gt0.true in
    wrong_writes 11 0 a.next.now _ c.wrong-then-l-gt0.ensures
    (opened (settings_of a.settings.now) (length a.next.now) s c.read-r.ensures c.if-r-gt0.false o.ensures.number_is c.if-o-gt0.false o.ensures.is ∙ long.0)
    long.1

pub returns : goal.returns
returns c =
    let a = c.args in
    let o = c.open-o in
    let s = o.result.tanks in
    let w = c.write-l.ensures in
    let good = fits (meaning s) a.next.now w.value w.out_after (right (meaning s) []) c.if-l-gt0.false in
    done_writes (meaning s) a.next.now _ c.right.ensures good.2
    (opened (settings_of a.settings.now) (length a.next.now) s c.read-r.ensures c.if-r-gt0.false o.ensures.number_is c.if-o-gt0.false o.ensures.is ∙ good.0)
    good.1
