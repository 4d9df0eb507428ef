-- `scan::common_at` meets its contract: the set of the run that both positions are in, or what two runs have in common.
use Prim.Native.Nat.{ℕ}
use mathlib.Core.Path.{sym, ap, ◌∙◌}
use lib.Bits.{bit_and}
use lib.ListN.{get_or}
use Rattle.runs.specs.Scan.{common_at}
use Rattle.runs.proofs.ScanLaws.{can_find, common_past, common_in, common_edge}
use Rattle.runs.proofs.scan.common_at.Goals as goal

pub returns-then-pos-eq0 : goal.returns-then-pos-eq0
unfolding common_at
returns-then-pos-eq0 c = ap (common_at _) (sym c.if-pos-eq0.true)

pub find-f-requires : goal.find-f-requires
find-f-requires c = can_find c.requires

pub returns-then-n-i : goal.returns-then-n-i
returns-then-n-i c = sym (common_past _ _ _ _ _ _ _ c.find-f.ensures c.if-n-i.true)

pub returns-then-f-pos : goal.returns-then-f-pos
returns-then-f-pos c = sym (common_in _ _ _ _ _ _ _ c.find-f.ensures c.if-n-i.false c.if-f-pos.true)

pub returns : goal.returns
returns c =
    ap (λ (x : ℕ). bit_and x (get_or c.args.sets.now c.find-f.result.index 0)) c.set_at-before.ensures
    ∙ sym (common_edge _ _ _ _ _ _ _ c.find-f.ensures c.if-n-i.false c.if-pos-eq0.false)
