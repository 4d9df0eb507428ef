-- `lists::iter_range` meets its contract: the front part is what was written.
use mathlib.Core.Path.{refl}
use lib.ListN.{length}
use Rattle.tank.specs.State.{view}
use Rattle.lists.specs.Lists.{range_number, range_list}
use Rattle.lists.proofs.ListLaws.{handed_part, handed_count}
use Rattle.lists.proofs.iter_range.Goals as goal

pub slice_bounds-result-end : goal.slice_bounds-result-end
slice_bounds-result-end c =
    let e = c.list_range-listed.ensures in
    handed_count (range_number c.args.start c.args.end (length c.args.out.now) (view c.args.t)) (range_list c.args.start c.args.end (view c.args.t))
    c.args.out.now _ _ (e.value, e.out_after)

pub returns : goal.returns
returns c =
    let e = c.list_range-listed.ensures in
    record {
      result_value =
          handed_part (range_number c.args.start c.args.end (length c.args.out.now) (view c.args.t)) (range_list c.args.start c.args.end (view c.args.t))
          c.args.out.now _ _ (e.value, e.out_after);
      ref_ptr_value = refl;
    }
