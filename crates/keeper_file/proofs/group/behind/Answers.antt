-- The line is at least as long as the name that it begins with.
use mathlib.Core.Path.{ap, ◌∙◌}
use Prim.Native.Nat.{◌-◌}
use native.Mathlib.Omega.{arith}
use lib.ListN.{length, drop, length-drop}
use lib.Seq.{take_all}
use Rattle.text.specs.Number.{decimal_of}
use Rattle.text.proofs.Prefix.{starts_length}
use Rattle.keeper_file.proofs.group.behind.Goals as goal

pub slice_bounds-decimal-count : goal.slice_bounds-decimal-count
slice_bounds-decimal-count c = starts_length _ _ c.requires

pub slice_bounds-decimal-start : goal.slice_bounds-decimal-start
slice_bounds-decimal-start c = starts_length _ _ c.requires

pub returns : goal.returns
returns c =
    let a = c.args in
    let n = length a.name.now in
    c.decimal.ensures ∙ ap decimal_of (take_all (length a.line.now - n) (drop n a.line.now) (omega (arith, length-drop n a.line.now)))
