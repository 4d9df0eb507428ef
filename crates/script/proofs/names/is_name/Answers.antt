-- The name is the front of its places.
use mathlib.Core.Path.{sym}
use lib.Seq.{length-take-le}
use Rattle.script.proofs.names.is_name.Goals as goal

pub slice_bounds-same-end : goal.slice_bounds-same-end
slice_bounds-same-end c = sym (length-take-le _ _ c.requires)
