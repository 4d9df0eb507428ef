-- The newline is searched, and what stands in front of it is put behind what is kept.
use native.Mathlib.Omega.{arith}
use lib.ListN.{drop, length-drop}
use Rattle.text.proofs.Finding.{front_length}
use Rattle.script.proofs.CutLaws.{cut_whole, cut_open}
use Rattle.script.proofs.lines.cut_line.Goals as goal

pub slice_bounds-put-end-2 : goal.slice_bounds-put-end-2
slice_bounds-put-end-2 c =
    let a = c.args in
    omega (arith, c.find-end.ensures, c.least-more.ensures, front_length 10 (drop a.from a.bytes.now), length-drop a.from a.bytes.now)

pub returns-then-end-bytes : goal.returns-then-end-bytes
returns-then-end-bytes c = cut_whole c.args.bytes.now c.args.from c.args.line _ _ _ _ _ c.requires c.kept-count.ensures c.find-end.ensures c.least-more.ensures c.put-n.ensures.1 c.put-n.ensures.0 c.if-end-bytes.true

pub returns : goal.returns
returns c = cut_open c.args.bytes.now c.args.from c.args.line _ _ _ _ _ c.requires c.kept-count.ensures c.find-end.ensures c.least-more.ensures c.put-n.ensures.1 c.put-n.ensures.0 c.if-end-bytes.false
